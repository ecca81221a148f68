-- Which tokens of trees a range touches.
use Rattle.typst_styles.proofs.Cited.{◌≡◌, ℕ, zero, suc, ◌+◌, ◌-◌, ◌^◌, ◌<◌, ◌≤◌, ◌⊎◌, Bool, List, [], ◌∷◌, ◌++◌, length, take, drop, Option, refl, ap, ◌∙◌, arith, inl, inr, length-append, Range, nat_tests, Forest, none, more, Tree, count, forest, joined, saturated, Tag, tree_of, inner, behind, after, below, role_of, is_end, Context, Role, node, own, row, tag_in, style_of, touching, Token}
use Rattle.typst_names.specs.declared.contexts.Context.TheVariants as context
use Rattle.typst_styles.proofs.EachToken.{Between, IsBetween, each_both, stretch_between}
use Rattle.typst_highlight.proofs.MovedRows.{row_length}

pub touching_append : (range : Range ℕ) (xs ys : List Token) → touching range (xs ++ ys) ≡ touching range xs ++ touching range ys
touching_append range [] ys = refl
touching_append range (x ∷ xs) ys = grind (arith, touching_append range xs ys)

-- a range touches no tokens that are behind it or before it
pub aside : (range : Range ℕ) (a e : ℕ) (ts : List Token) → Between a e ts → ((range.end ≤ a) ⊎ (e ≤ range.start)) → touching range ts ≡ []
aside range a e [] w o = refl
aside range a e (t ∷ ts) w o = grind (arith, nat_tests, aside range a e ts w.1 o)

-- of tokens behind such ones it touches what it touches of them alone
pub behind_others : (range : Range ℕ) (xs ys : List Token) → touching range xs ≡ [] → touching range (xs ++ ys) ≡ touching range ys
behind_others range xs ys gone = touching_append range xs ys ∙ ap (λ ts. ts ++ touching range ys) gone

-- ---- of trees

-- the tokens of a tree are between two bytes if those of its children are
node_between : (b e : ℕ) (text : List ℕ) (root : Tree) (n a : ℕ) (u : Option Tag) (c : Context) (is_last : Bool) (t : Tree) → (a < 2 ^ 64 - 1 → b ≤ a) → inner a t.head ≤ e
    → Between b e (row text root (n + 1) (inner a t.head) (tag_in root n u) (below c t.head.kind) t.kids) → Between b e (node text root n a u c is_last t)
node_between b e text root n a u c is_last t l m kids =
    let role : Option Role = role_of c t.head.kind is_last in
    each_both (IsBetween b e) (own text (tag_in root n u) role a t.head) (row text root (n + 1) (inner a t.head) (tag_in root n u) (below c t.head.kind) t.kids)
    (stretch_between b e text a (inner a t.head) (style_of (tag_in root n u) role) (λ o. l (omega arith)) m)
    kids

-- the tokens of trees are between their bytes; behind those that can be counted there are none
pub row_between : (b e : ℕ) (text : List ℕ) (root : Tree) (n a : ℕ) (u : Option Tag) (c : Context) (f : Forest) → (a < 2 ^ 64 - 1 → b ≤ a) → saturated (a + length (joined f)) ≤ e → Between b e (row text root n a u c f)
row_between b e text root n a u c none l m = tt
row_between b e text root n a u c (more h ks r) l m =
    let whole = length-append h.text (joined ks) in
    let total = row_length h ks r in
    each_both (IsBetween b e) (node text root n a u c (is_end r) (tree_of h ks)) (row text root (n + (1 + count ks)) (behind a h ks) u (after c h.kind) r)
    (node_between b e text root n a u c (is_end r) (tree_of h ks) l (omega (arith, total, m)) (row_between b e text root (n + 1) (inner a h) (tag_in root n u) (below c h.kind) ks (λ o. omega (arith, l, o)) (omega (arith, total, m))))
    (row_between b e text root (n + (1 + count ks)) (behind a h ks) u (after c h.kind) r (λ o. omega (arith, l, o)) (omega (arith, whole, total, m)))

-- a tree that ends by the range's start
pub node_ended : (range : Range ℕ) (text : List ℕ) (root : Tree) (n a : ℕ) (u : Option Tag) (c : Context) (is_last : Bool) (t : Tree) → behind a t.head t.kids ≤ range.start → touching range (node text root n a u c is_last t) ≡ []
node_ended range text root n a u c is_last t l =
    let whole = length-append t.head.text (joined t.kids) in
    let kids = row_between 0 range.start text root (n + 1) (inner a t.head) (tag_in root n u) (below c t.head.kind) t.kids (λ o. omega arith) (omega (arith, whole, l)) in
    aside range 0 range.start (node text root n a u c is_last t) (node_between 0 range.start text root n a u c is_last t (λ o. omega arith) (omega (arith, whole, l)) kids) (inr (omega arith))

-- trees that begin at the range's end or after it
pub row_begun : (range : Range ℕ) (text : List ℕ) (root : Tree) (n a : ℕ) (u : Option Tag) (c : Context) (f : Forest) → range.end ≤ a → touching range (row text root n a u c f) ≡ []
row_begun range text root n a u c f l =
    aside range range.end (2 ^ 64 - 1) (row text root n a u c f) (row_between range.end (2 ^ 64 - 1) text root n a u c f (λ o. l) (omega arith)) (inl (omega arith))

-- trees of which the first so many end by the range's start, where no node changes what names are: the range touches what it touches of the others
pub row_from : (range : Range ℕ) (text : List ℕ) (root : Tree) (n a : ℕ) (u : Option Tag) (i : ℕ) (ts : List Tree) → (0 < i → a + length (joined (forest (take i ts))) ≤ range.start) → a + length (joined (forest (take i ts))) ≤ 2 ^ 64 - 1
    → touching range (row text root n a u context.Value (forest ts)) ≡ touching range (row text root (n + count (forest (take i ts))) (a + length (joined (forest (take i ts)))) u context.Value (forest (drop i ts)))
row_from range text root n a u zero ts low few = grind arith
row_from range text root n a u (suc i) [] low few = refl
row_from range text root n a u (suc i) (t ∷ ts) low few =
    let passed : Forest = forest (take i ts) in
    let m : ℕ = n + (1 + count t.kids) in
    let b : ℕ = behind a t.head t.kids in
    let whole = length-append t.head.text (joined t.kids) in
    let total = row_length t.head t.kids passed in
    let near = low (omega arith) in
    let number : m + count passed ≡ n + count (more t.head t.kids passed) = omega arith in
    let start : b + length (joined passed) ≡ a + length (joined (more t.head t.kids passed)) = omega (arith, whole, total, few) in
    behind_others range (node text root n a u context.Value (is_end (forest ts)) t) (row text root m b u context.Value (forest ts)) (node_ended range text root n a u context.Value (is_end (forest ts)) t (omega (arith, start, near)))
    ∙ (row_from range text root m b u i ts (λ some. omega (arith, start, near)) (omega (arith, start, few))
    ∙ (λ j. touching range (row text root (number j) (start j) u context.Value (forest (drop i ts)))))
