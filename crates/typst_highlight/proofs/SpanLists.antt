-- The walk lists the tags of the spans that the tree's nodes stand in.
use Rattle.typst_highlight.proofs.Cited.{◌≡◌, ℕ, zero, suc, ◌+◌, true, List, [], ◌∷◌, ◌++◌, map, Option, None, Some, refl, ap, sym, ◌∙◌, arith, append_assoc, append-nil, Head, Forest, none, more, Tree, count, nodes, places, preorder, is_leaf, Tag, Context, spanned, tree_of, within, past, passed, tag, walked_row, walked, lister, root_context}
use Rattle.typst_highlight.specs.Spans.{numbers_from, span_at, spans}
use Rattle.typst_highlight.proofs.Cases.{bool_cases}
use Rattle.typst_highlight.proofs.Rows.{Stand, below, behind, alone}
use Rattle.typst_highlight.proofs.Contexts.{Fits, fits_below, fits_behind, fits_root, passed_here}
use Rattle.typst_highlight.proofs.Trees.{tag_law}

-- the tags of so many nodes from the number k on
abbrev tags : Tree → ℕ → ℕ → List (Option Tag)
tags root k many = map (span_at root) (numbers_from k many)

tags_more : (root : Tree) (k a b : ℕ) → tags root k (a + b) ≡ tags root k a ++ tags root (k + a) b
tags_more root k zero b = grind arith
tags_more root k (suc a) b =
    let number : k + 1 + a ≡ k + suc a = omega arith in
    let many : suc a + b ≡ suc (a + b) = omega arith in
    ap (tags root k) many
    ∙ ap (λ ts. span_at root k ∷ ts) (tags_more root (k + 1) a b ∙ ap (λ n. tags root (k + 1) a ++ tags root n b) number)

-- the tags of a node, of those below it and of those behind these
tags_parts : (root : Tree) (k a b : ℕ) → tags root k (1 + (a + b)) ≡ span_at root k ∷ (tags root (k + 1) a ++ tags root (k + (1 + a)) b)
tags_parts root k a b = grind (arith, tags_more)

no_kids : (root : Tree) (k : ℕ) (h : Head) (ks : Forest) (c : Context) (s : List (Option Tag)) → is_leaf (tree_of h ks) ≡ true → walked_row lister c ks s ≡ s ++ tags root k (count ks)
no_kids root k h ks c s e = grind (arith, append-nil)

joined : (s own inner later : List (Option Tag)) → ((s ++ own) ++ inner) ++ later ≡ s ++ (own ++ (inner ++ later))
joined s own inner later = simp append_assoc refl

-- the tags of the trees are added behind those that were there
lister_row : (root : Tree) (k : ℕ) (f : Forest) (front back : List Tree) (up : Option ℕ) (c : Context) (s : List (Option Tag)) → Stand root k f front back up → Fits root k f up c → walked_row lister c f s ≡ s ++ tags root k (count f)
lister_row root k none front back up c s st w = sym (append-nil s)
lister_row root k (more h ks r) front back up c s st w =
    let t : Tree = tree_of h ks in
    let own : Option Tag = spanned (tag c t r) in
    let same : own ≡ span_at root k = ap spanned (tag_law root k h ks r front back up c st w) in
    let begun : List (Option Tag) = s ++ own ∷ [] in
    let rest : Context = past c t (passed c t r) in
    let inner : walked_row lister (within c t r) ks begun ≡ begun ++ tags root (k + 1) (count ks) =
    bool_cases (is_leaf t)
    (λ is_so. no_kids root (k + 1) h ks (within c t r) begun is_so)
    (λ not_so. lister_row root (k + 1) ks (front ++ t ∷ []) (preorder r ++ back) (Some k) (within c t r) begun (below root k h ks r front back up st) (fits_below root k h ks r front back up c st w not_so)) in
    let next : List (Option Tag) = begun ++ tags root (k + 1) (count ks) in
    let later : walked_row lister rest r next ≡ next ++ tags root (k + (1 + count ks)) (count r) =
    lister_row root (k + (1 + count ks)) r (front ++ places t) back up rest next (behind root k h ks r front back up st) (fits_behind root k h ks r front back up c (passed c t r) st w (passed_here root k h ks r front back up c st w)) in
    ap (walked_row lister rest r) inner
    ∙ (later
    ∙ (joined s (own ∷ []) (tags root (k + 1) (count ks)) (tags root (k + (1 + count ks)) (count r))
    ∙ ((λ i. s ++ same i ∷ (tags root (k + 1) (count ks) ++ tags root (k + (1 + count ks)) (count r)))
    ∙ sym (ap (λ ts. s ++ ts) (tags_parts root k (count ks) (count r))))))

-- the tags that the walk through a tree lists
pub lister_root : (root : Tree) (s t : List (Option Tag)) → s ≡ [] → t ≡ walked lister root_context root none s → t ≡ spans root
lister_root root s t e made =
    let all : count (more root.head root.kids none) ≡ nodes root = omega arith in
    made
    ∙ (lister_row root 0 (more root.head root.kids none) [] [] None root_context s (alone root) (fits_root root root_context refl refl refl refl refl)
    ∙ (λ i. e i ++ tags root 0 (all i)))
