-- Tags don't depend on spans.
use Rattle.typst_highlight.proofs.Cited.{◌≡◌, ℕ, ◌+◌, length, Option, Some, refl, ap, ◌∙◌, cond, arith, Head, SyntaxKind, is_trivia, is_leaf, Tag, Rule, Ahead, Context, Trail, rule_of, end, first_ahead, first_leaf, found, name, next_kind, next_leaf, passed, passed_row, past, step, tag, tag_here, tree_of, within}
use Rattle.typst_tree.specs.Tree.{Forest, none, more, Tree, bare, bare_forest, saturated, text_of}
use Rattle.typst_tree.proofs.ReplacesChildren.{text_bare}

leaf_of : (h : Head) (ks : Forest) → is_leaf (bare (tree_of h ks)) ≡ is_leaf (tree_of h ks)
leaf_of h ks = grind arith

pub bare_leaf : (t : Tree) → is_leaf (bare t) ≡ is_leaf t
bare_leaf t = leaf_of t.head t.kids

bare_first : (p : Option SyntaxKind) (a : ℕ) (f : Forest) → first_leaf p a (bare_forest f) ≡ first_leaf p a f
bare_first p a none = refl
bare_first p a (more h ks r) =
    let t : Tree = tree_of h ks in
    let own : Option Ahead = Some (record { kind = h.kind; parent = p; offset = a }) in
    let inner : first_leaf (Some h.kind) (saturated (a + length h.text)) (bare_forest ks) ≡ first_leaf (Some h.kind) (saturated (a + length h.text)) ks = bare_first (Some h.kind) (saturated (a + length h.text)) ks in
    let later : first_leaf p (saturated (a + length (text_of (bare t)))) (bare_forest r) ≡ first_leaf p (saturated (a + length (text_of t))) r =
    ap (λ bs. first_leaf p (saturated (a + length bs)) (bare_forest r)) (text_bare t) ∙ bare_first p (saturated (a + length (text_of t))) r in
    λ i. cond (bare_leaf t i) own (first_ahead (inner i) (later i))

bare_kind : (f : Forest) → next_kind (bare_forest f) ≡ next_kind f
bare_kind none = refl
bare_kind (more h ks r) = ap (λ k. cond (is_trivia h.kind) k (Some h.kind)) (bare_kind r)

bare_end : (c : Context) (t : Tree) → end c (bare t) ≡ end c t
bare_end c t = ap (λ bs. saturated (c.offset + length bs)) (text_bare t)

bare_next : (c : Context) (t : Tree) (r : Forest) → next_leaf c (bare t) (bare_forest r) ≡ next_leaf c t r
bare_next c t r = grind (arith, bare_end, bare_first)

pub bare_within : (c : Context) (t : Tree) (r : Forest) → within c (bare t) (bare_forest r) ≡ within c t r
bare_within c t r = ap (λ l. record (within c t r) { ahead = l }) (bare_next c t r)

bare_name : (c : Context) (t : Tree) (r : Forest) → name c (bare t) (bare_forest r) ≡ name c t r
bare_name c t r = grind (arith, bare_end, bare_next)

bare_step : (c : Context) (t : Tree) (r : Forest) → step c (bare t) (bare_forest r) ≡ step c t r
bare_step c t r = grind (arith, cond, bare_name)

bare_past : (c : Context) (t : Tree) (x y : Trail) → x ≡ y → past c (bare t) x ≡ past c t y
bare_past c t x y e = grind (arith, bare_end)

-- the last leaves behind trees
bare_row : (c : Context) (f : Forest) → passed_row c (bare_forest f) ≡ passed_row c f
bare_row c none = refl
bare_row c (more h ks r) =
    let t : Tree = tree_of h ks in
    let inner : passed_row (within c (bare t) (bare_forest r)) (bare_forest ks) ≡ passed_row (within c t r) ks = ap (λ w. passed_row w (bare_forest ks)) (bare_within c t r) ∙ bare_row (within c t r) ks in
    let leaf = bare_leaf t in
    let stepped = bare_step c t r in
    let one : passed c (bare t) (bare_forest r) ≡ passed c t r = λ i. cond (leaf i) (stepped i) (inner i) in
    ap (λ w. passed_row w (bare_forest r)) (bare_past c t (passed c (bare t) (bare_forest r)) (passed c t r) one) ∙ bare_row (past c t (passed c t r)) r

pub bare_passed : (c : Context) (t : Tree) (r : Forest) → passed c (bare t) (bare_forest r) ≡ passed c t r
bare_passed c t r = grind (arith, bare_within, bare_row, bare_leaf, bare_step, cond)

pub bare_later : (c : Context) (t : Tree) (r : Forest) → past c (bare t) (passed c (bare t) (bare_forest r)) ≡ past c t (passed c t r)
bare_later c t r = bare_past c t (passed c (bare t) (bare_forest r)) (passed c t r) (bare_passed c t r)

bare_here : (u : Rule) (c : Context) (t : Tree) (r : Forest) (x y : Option Tag) → x ≡ y → tag_here u c (bare t) (bare_forest r) x ≡ tag_here u c t r y
bare_here u c t r x y e = grind (arith, bare_kind, bare_name)

bare_found : (c : Context) (f : Forest) → found c (bare_forest f) ≡ found c f
bare_found c none = refl
bare_found c (more h ks r) =
    let t : Tree = tree_of h ks in
    let u : Tree = bare t in
    let q : Forest = bare_forest r in
    let inner : found (within c u q) (bare_forest ks) ≡ found (within c t r) ks = ap (λ w. found w (bare_forest ks)) (bare_within c t r) ∙ bare_found (within c t r) ks in
    let later : found (past c u (passed c u q)) q ≡ found (past c t (passed c t r)) r = ap (λ w. found w q) (bare_later c t r) ∙ bare_found (past c t (passed c t r)) r in
    let mine : tag_here (rule_of h.kind) c u q (found (past c u (passed c u q)) q).expression ≡ tag_here (rule_of h.kind) c t r (found (past c t (passed c t r)) r).expression =
    bare_here (rule_of h.kind) c t r (found (past c u (passed c u q)) q).expression (found (past c t (passed c t r)) r).expression (ap (λ x. x.expression) later) in
    let leaf = bare_leaf t in
    let own : cond (is_leaf u) (Some (tag_here (rule_of h.kind) c u q (found (past c u (passed c u q)) q).expression)) (found (within c u q) (bare_forest ks)).leaf ≡ cond (is_leaf t) (Some (tag_here (rule_of h.kind) c t r (found (past c t (passed c t r)) r).expression)) (found (within c t r) ks).leaf =
    λ i. cond (leaf i) (Some (mine i)) (inner i).leaf in
    grind arith

pub bare_tag : (c : Context) (t : Tree) (r : Forest) → tag c (bare t) (bare_forest r) ≡ tag c t r
bare_tag c t r = grind (arith, bare_later, bare_found, bare_here)
