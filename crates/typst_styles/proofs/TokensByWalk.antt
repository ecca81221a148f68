-- The tokens of a tree by what a walk carries along.
use Rattle.typst_styles.proofs.Cited.{◌≡◌, ℕ, ◌+◌, ◌-◌, ◌^◌, ◌≤◌, true, List, [], ◌∷◌, ◌++◌, length, Option, None, Some, refl, ap, sym, ◌∙◌, arith, append_assoc, append-nil, length-append, slice_range, take-append_seam, drop-append_seam, Head, Forest, none, more, Tree, bare_forest, count, joined, places, preorder, text_of, Tag, past, passed, root_context, tag, tree_of, within, inner, behind, after, below, role_of, is_end, Context, Role, own, row, tag_in, style_of, all_tokens, stretch, Style, Token, is_leaf, spanned, first_tag, bare_later, bare_tag, bare_within}
use Rattle.typst_highlight.specs.declared.context.Context.{Context as Around}
use Rattle.typst_highlight.proofs.Cases.{bool_cases}
use Rattle.typst_highlight.proofs.Contexts.{Fits, fits_behind, fits_below, fits_root, passed_here}
use Rattle.typst_highlight.proofs.Rows.{Stand, alone, behind as stand_behind, below as stand_below}
use Rattle.typst_highlight.proofs.Trees.{tag_law}
use Rattle.typst_names.specs.declared.contexts.Context.TheVariants as context
use Rattle.typst_styles.proofs.EachToken.{piece}
use Rattle.typst_styles.proofs.TokensByNode.{by_node}

-- the tag that the first of some trees is shown by
abbrev pub tag_by : Around → Option Tag → Tree → Forest → Option Tag
tag_by c u t r = first_tag (spanned (tag c t r)) u

-- the tokens of trees side by side in a span of the tag u, by what is round the first of them
abbrev pub shown : Around → Option Tag → Context → Forest → List Token
shown c u x none = []
shown c u x (more h ks r) =
    let t : Tree = tree_of h ks in
    (piece (style_of (tag_by c u t r) (role_of x h.kind (is_end r))) c.offset h.text ++ shown (within c t r) (tag_by c u t r) (below x h.kind) ks)
    ++ shown (past c t (passed c t r)) u (after x h.kind) r

-- those of the text of the first of such trees, of its children, of both, and of the others
abbrev pub own_piece : Around → Option Tag → Context → Tree → Forest → List Token
own_piece c u x t r = piece (style_of (tag_by c u t r) (role_of x t.head.kind (is_end r))) c.offset t.head.text

abbrev pub of_kids : Around → Option Tag → Context → Tree → Forest → List Token
of_kids c u x t r = shown (within c t r) (tag_by c u t r) (below x t.head.kind) t.kids

abbrev pub of_tree : Around → Option Tag → Context → Tree → Forest → List Token
of_tree c u x t r = own_piece c u x t r ++ of_kids c u x t r

abbrev pub of_later : Around → Option Tag → Context → Tree → Forest → List Token
of_later c u x t r = shown (past c t (passed c t r)) u (after x t.head.kind) r

-- ---- they are those of the tree's nodes

slice_here : (text before bs rest : List ℕ) (a e : ℕ) → text ≡ before ++ (bs ++ rest) → a ≡ length before → e ≡ a + length bs → slice_range text a e ≡ bs
slice_here text before bs rest a e whole at ends = let many : e - a ≡ length bs = omega (arith, ends) in grind (arith, drop-append_seam, take-append_seam)

stretch_piece : (text : List ℕ) (a e : ℕ) (bs : List ℕ) (o : Option Style) → slice_range text a e ≡ bs → stretch text a e o ≡ piece o a bs
stretch_piece text a e bs o s = grind arith

no_kids : (text : List ℕ) (root : Tree) (n a : ℕ) (u : Option Tag) (x : Context) (c : Around) (h : Head) (ks : Forest) → is_leaf (tree_of h ks) ≡ true → row text root n a u x ks ≡ shown c u x ks
no_kids text root n a u x c h ks e = grind arith

-- the text has these trees' texts from a byte on
pub record Holds (text : List ℕ) (f : Forest) (a : ℕ) (before rest : List ℕ) : Type 0 where
  pub whole : text ≡ before ++ (joined f ++ rest)
  pub at : a ≡ length before
  pub counted : length text ≤ 2 ^ 64 - 1

text_length : (text before bs rest : List ℕ) → text ≡ before ++ (bs ++ rest) → length text ≡ length before + (length bs + length rest)
text_length text before bs rest e = omega (arith, ap length e, length-append before (bs ++ rest), length-append bs rest)

by_walk : (text : List ℕ) (root : Tree) (n : ℕ) (u : Option Tag) (x : Context) (f : Forest) (front back : List Tree) (up : Option ℕ) (c : Around) (before rest : List ℕ)
    → Stand root n f front back up → Fits root n f up c → Holds text f c.offset before rest → row text root n c.offset u x f ≡ shown c u x f
by_walk text root n u x none front back up c before rest s w at = refl
by_walk text root n u x (more h ks r) front back up c before rest s w at =
    let t : Tree = tree_of h ks in
    let a : ℕ = c.offset in
    let role : Option Role = role_of x h.kind (is_end r) in
    let same : tag_in root n u ≡ tag_by c u t r = ap (λ z. first_tag (spanned z) u) (sym (tag_law root n h ks r front back up c s w)) in
    let first : text ≡ before ++ (h.text ++ ((joined ks ++ joined r) ++ rest)) = at.whole ∙ simp append_assoc in
    let low : text ≡ (before ++ h.text) ++ (joined ks ++ (joined r ++ rest)) = at.whole ∙ simp append_assoc in
    let next : text ≡ (before ++ (h.text ++ joined ks)) ++ (joined r ++ rest) = at.whole ∙ simp append_assoc in
    let own_end : inner a h ≡ a + length h.text = omega (arith, at.at, at.counted, text_length text before h.text ((joined ks ++ joined r) ++ rest) first) in
    let mine : own text (tag_in root n u) role a h ≡ piece (style_of (tag_by c u t r) role) a h.text =
    ap (λ z. own text z role a h) same ∙ stretch_piece text a (inner a h) h.text (style_of (tag_by c u t r) role) (slice_here text before h.text ((joined ks ++ joined r) ++ rest) a (inner a h) first at.at own_end) in
    let kids_at : Holds text ks (within c t r).offset (before ++ h.text) (joined r ++ rest) = record {
      whole = low;
      at = omega (arith, at.at, at.counted, own_end, length-append before h.text);
      counted = at.counted;
    } in
    let kids : row text root (n + 1) (inner a h) (tag_by c u t r) (below x h.kind) ks ≡ shown (within c t r) (tag_by c u t r) (below x h.kind) ks =
    bool_cases (is_leaf t)
    (λ is_so. no_kids text root (n + 1) (inner a h) (tag_by c u t r) (below x h.kind) (within c t r) h ks is_so)
    (λ not_so. by_walk text root (n + 1) (tag_by c u t r) (below x h.kind) ks (front ++ t ∷ []) (preorder r ++ back) (Some n) (within c t r) (before ++ h.text) (joined r ++ rest) (stand_below root n h ks r front back up s) (fits_below root n h ks r front back up c s w not_so) kids_at) in
    let rest_at : Holds text r (past c t (passed c t r)).offset (before ++ (h.text ++ joined ks)) rest = record {
      whole = next;
      at = omega (arith, at.at, at.counted, text_length text (before ++ (h.text ++ joined ks)) (joined r) rest next, length-append before (h.text ++ joined ks));
      counted = at.counted;
    } in
    let later : row text root (n + (1 + count ks)) (behind a h ks) u (after x h.kind) r ≡ shown (past c t (passed c t r)) u (after x h.kind) r =
    by_walk text root (n + (1 + count ks)) u (after x h.kind) r (front ++ places t) back up (past c t (passed c t r)) (before ++ (h.text ++ joined ks)) rest (stand_behind root n h ks r front back up s) (fits_behind root n h ks r front back up c (passed c t r) s w (passed_here root n h ks r front back up c s w)) rest_at in
    let inside : row text root (n + 1) (inner a h) (tag_in root n u) (below x h.kind) ks ≡ shown (within c t r) (tag_by c u t r) (below x h.kind) ks =
    ap (λ z. row text root (n + 1) (inner a h) z (below x h.kind) ks) same ∙ kids in
    λ i. (mine i ++ inside i) ++ later i

-- all tokens of a tree's own text
pub all_shown : (text : List ℕ) (root : Tree) → text ≡ text_of root → length text ≤ 2 ^ 64 - 1 → all_tokens text root ≡ shown root_context None context.Value (more root.head root.kids none)
all_shown text root e l =
    let whole : text ≡ [] ++ (joined (more root.head root.kids none) ++ []) = e ∙ sym (append-nil (joined (more root.head root.kids none)) ∙ ap (λ bs. root.head.text ++ bs) (append-nil (joined root.kids))) in
    by_node text root
    ∙ by_walk text root 0 None context.Value (more root.head root.kids none) [] [] None root_context [] [] (alone root) (fits_root root root_context refl refl refl refl refl) (record { whole = whole; at = refl; counted = l })

-- ---- they don't depend on spans

bare_end : (f : Forest) → is_end (bare_forest f) ≡ is_end f
bare_end f = grind arith

pub shown_bare : (c : Around) (u : Option Tag) (x : Context) (f : Forest) → shown c u x (bare_forest f) ≡ shown c u x f
shown_bare c u x none = refl
shown_bare c u x (more h ks r) =
    let t : Tree = tree_of h ks in
    grind (arith, bare_tag c t r, bare_end r, bare_within c t r, bare_later c t r, shown_bare (within c t r) (tag_by c u t r) (below x h.kind) ks, shown_bare (past c t (passed c t r)) u (after x h.kind) r)
