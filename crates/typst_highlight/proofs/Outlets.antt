-- What a walk gives the nodes to: HTML that is written, and stretches that are added.
use Rattle.typst_highlight.proofs.Cited.{◌≡◌, ℕ, ◌+◌, ◌-◌, ◌^◌, ◌≤◌, true, List, [], ◌∷◌, ◌++◌, Option, None, Some, length, refl, ap, sym, subst, ◌∙◌, arith, append_assoc, append-nil, length-append, codes, Head, is_leaf, at, Tag, Context, first_tag, tag_of, escaped, spanned, span_start, span_end, html_of, tree_of, within, past, passed, tag, forest_html, node_html, walked_row, walked, html, Marks, tagger, root_context, stretch, row_stretches, stretches, AreJoined}
use Rattle.typst_tree.specs.Tree.{Forest, none, more, Tree, count, joined, saturated, places, preorder, text_of}
use Rattle.typst_highlight.specs.declared.stretches.Tagged.{Tagged}
use Rattle.typst_highlight.proofs.Cases.{bool_cases}
use Rattle.typst_highlight.proofs.Rows.{Stand, below, behind, alone}
use Rattle.typst_highlight.proofs.Contexts.{Fits, fits_below, fits_behind, fits_root, passed_here}
use Rattle.typst_highlight.proofs.Trees.{tag_law, written_law}

-- HTML to which a span was added, with what stands in it
joined_span : (s start own inner last later : List ℕ) → ((((s ++ start) ++ own) ++ inner) ++ last) ++ later ≡ s ++ ((start ++ (own ++ (inner ++ last))) ++ later)
joined_span s start own inner last later = simp append_assoc refl

-- the HTML of the trees is written behind what was there
html_row : (c : Context) (f : Forest) (s : List ℕ) → walked_row html c f s ≡ s ++ forest_html c f
html_row c none s = sym (append-nil s)
html_row c (more h ks r) s =
    let t : Tree = tree_of h ks in
    let span : Option Tag = spanned (tag c t r) in
    let rest : Context = past c t (passed c t r) in
    ap (λ bs. walked_row html rest r (bs ++ span_end span)) (html_row (within c t r) ks ((s ++ span_start span) ++ escaped h.text))
    ∙ (html_row rest r (((((s ++ span_start span) ++ escaped h.text) ++ forest_html (within c t r) ks)) ++ span_end span)
    ∙ joined_span s (span_start span) (escaped h.text) (forest_html (within c t r) ks) (span_end span) (forest_html rest r))

html_node : (c : Context) (t : Tree) (r : Forest) (s : List ℕ) → walked html c t r s ≡ s ++ node_html c t r
html_node c t r s = grind (arith, html_row, append_assoc)

-- what was written by the walk through a tree, between the beginning and the end of the element
pub html_root : (root : Tree) (start first second last : List ℕ) → start ≡ [] → first ≡ start ++ codes "<code>" → second ≡ walked html root_context root none first → last ≡ second ++ codes "</code>" → last ≡ html_of root
html_root root start first second last e f g h =
    written_law root root_context start first second last (fits_root root root_context refl refl refl refl refl) e f (g ∙ html_node root_context root none first) h

-- stretches, and a text of n bytes, were added
abbrev added : Marks → List Tagged → ℕ → Marks
added s xs n = record { stretches = s.stretches ++ xs; end = saturated (s.end + n); around = s.around }

none_added : (s : Marks) → s.end ≤ 2 ^ 64 - 1 → s ≡ added s [] 0
none_added s l = grind (arith, append-nil)

-- the stretches of trees in the span of the tagger
abbrev rows : Tree → ℕ → Marks → Forest → List Tagged
rows root k s f = row_stretches root k s.end s.around f

no_kids : (root : Tree) (k : ℕ) (h : Head) (ks : Forest) (c : Context) (s : Marks) → s.end ≤ 2 ^ 64 - 1 → is_leaf (tree_of h ks) ≡ true → walked_row tagger c ks s ≡ added s (rows root k s ks) (length (joined ks))
no_kids root k h ks c s l e = grind (arith, none_added)

-- the stretches of the trees are added behind those that were there
tagger_row : (root : Tree) (k : ℕ) (f : Forest) (front back : List Tree) (up : Option ℕ) (c : Context) (s : Marks) → Stand root k f front back up → Fits root k f up c → s.end ≤ 2 ^ 64 - 1 → walked_row tagger c f s ≡ added s (rows root k s f) (length (joined f))
tagger_row root k none front back up c s st w l = none_added s l
tagger_row root k (more h ks r) front back up c s st w l =
    let t : Tree = tree_of h ks in
    let mine : Option Tag = first_tag (spanned (tag c t r)) s.around in
    let own : mine ≡ first_tag (spanned (tag_of (at root k))) s.around = ap (λ u. first_tag (spanned u) s.around) (tag_law root k h ks r front back up c st w) in
    let begun : Marks = tagger.given (tagger.begun s (spanned (tag c t r))) h.text in
    let rest : Context = past c t (passed c t r) in
    let inner : walked_row tagger (within c t r) ks begun ≡ added begun (rows root (k + 1) begun ks) (length (joined ks)) =
    bool_cases (is_leaf t)
    (λ is_so. no_kids root (k + 1) h ks (within c t r) begun (omega arith) is_so)
    (λ not_so. tagger_row root (k + 1) ks (front ++ t ∷ []) (preorder r ++ back) (Some k) (within c t r) begun (below root k h ks r front back up st) (fits_below root k h ks r front back up c st w not_so) (omega arith)) in
    let kids : List Tagged = rows root (k + 1) begun ks in
    let next : Marks = record { stretches = (s.stretches ++ stretch s.end h.text mine) ++ kids; end = saturated (saturated (s.end + length h.text) + length (joined ks)); around = s.around } in
    let later : walked_row tagger rest r next ≡ added next (rows root (k + (1 + count ks)) next r) (length (joined r)) =
    tagger_row root (k + (1 + count ks)) r (front ++ places t) back up rest next (behind root k h ks r front back up st) (fits_behind root k h ks r front back up c (passed c t r) st w (passed_here root k h ks r front back up c st w)) (omega arith) in
    let reached : next.end ≡ saturated (s.end + length (h.text ++ joined ks)) = omega (arith, length-append h.text (joined ks)) in
    let total : saturated (next.end + length (joined r)) ≡ saturated (s.end + length (h.text ++ (joined ks ++ joined r))) = omega (arith, length-append h.text (joined ks ++ joined r), length-append (joined ks) (joined r)) in
    let listed : ((s.stretches ++ stretch s.end h.text mine) ++ kids) ++ rows root (k + (1 + count ks)) next r ≡ s.stretches ++ rows root k s (more h ks r) =
    append_assoc (s.stretches ++ stretch s.end h.text mine) kids (rows root (k + (1 + count ks)) next r)
    ∙ (append_assoc s.stretches (stretch s.end h.text mine) (kids ++ rows root (k + (1 + count ks)) next r)
    ∙ (λ i. s.stretches ++ (stretch s.end h.text (own i) ++ (row_stretches root (k + 1) (saturated (s.end + length h.text)) (own i) ks ++ row_stretches root (k + (1 + count ks)) (reached i) s.around r)))) in
    grind arith

-- what was added by the walk through a tree to nothing
pub tagger_root : (root : Tree) (s t : Marks) → s.stretches ≡ [] → s.end ≡ 0 → s.around ≡ None → t ≡ walked tagger root_context root none s → t.stretches ≡ stretches root
tagger_root root s t e f g made =
    let small : s.end ≤ 2 ^ 64 - 1 = omega (arith, f) in
    ap (λ q. q.stretches) (made ∙ tagger_row root 0 (more root.head root.kids none) [] [] None root_context s (alone root) (fits_root root root_context refl refl refl refl refl) small)
    ∙ (λ i. e i ++ row_stretches root 0 (f i) (g i) (more root.head root.kids none))

joined_then : (a b d : ℕ) (xs ys : List Tagged) → AreJoined a xs b → AreJoined b ys d → AreJoined a (xs ++ ys) d
joined_then a b d [] ys p q = subst (λ n. AreJoined n ys d) (sym p) q
joined_then a b d (x ∷ xs) ys p q = (p.0, (p.1.0, joined_then x.range.end b d xs ys p.1.1 q))

joined_one : (a : ℕ) (text : List ℕ) (t : Option Tag) → a ≤ 2 ^ 64 - 1 → AreJoined a (stretch a text t) (saturated (a + length text))
joined_one a text t l = grind arith

joined_row : (root : Tree) (n a : ℕ) (u : Option Tag) (f : Forest) → a ≤ 2 ^ 64 - 1 → AreJoined a (row_stretches root n a u f) (saturated (a + length (joined f)))
joined_row root n a u none l = omega (arith, l)
joined_row root n a u (more h ks r) l =
    let t : Option Tag = first_tag (spanned (tag_of (at root n))) u in
    let own : ℕ = saturated (a + length h.text) in
    let behind_it : ℕ = saturated (a + length (h.text ++ joined ks)) in
    let inner : saturated (own + length (joined ks)) ≡ behind_it = omega (arith, length-append h.text (joined ks)) in
    let total : saturated (behind_it + length (joined r)) ≡ saturated (a + length (h.text ++ (joined ks ++ joined r))) = omega (arith, length-append h.text (joined ks), length-append h.text (joined ks ++ joined r), length-append (joined ks) (joined r)) in
    joined_then a own _ _ _ (joined_one a h.text t l)
    (joined_then own behind_it _ _ _
    (subst (AreJoined own (row_stretches root (n + 1) own t ks)) inner (joined_row root (n + 1) own t ks (omega arith)))
    (subst (AreJoined behind_it (row_stretches root (n + (1 + count ks)) behind_it u r)) total (joined_row root (n + (1 + count ks)) behind_it u r (omega arith))))

-- the stretches of a tree cover its text
pub joined_root : (root : Tree) → AreJoined 0 (stretches root) (saturated (length (text_of root)))
joined_root root =
    let same : length (joined (more root.head root.kids none)) ≡ length (text_of root) = ap (λ bs. length (root.head.text ++ bs)) (append-nil (joined root.kids)) in
    let whole : saturated (0 + length (joined (more root.head root.kids none))) ≡ saturated (length (text_of root)) = omega (arith, same) in
    subst (AreJoined 0 (stretches root)) whole (joined_row root 0 0 None (more root.head root.kids none) (omega arith))
