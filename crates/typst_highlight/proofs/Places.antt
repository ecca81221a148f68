-- The leaf whose tag a hash has: the first one of trees, where those that hold no leaf are passed over.
use Rattle.typst_highlight.proofs.Cited.{◌≡◌, ℕ, ◌+◌, ◌*◌, Bool, true, false, ◌||◌, Option, None, Some, refl, ap, sym, ◌∙◌, cond, arith, is_some, Forest, none, more, Tree, forest, count, is_leaf, Tag, Context, found, holds_leaf, if_found, own, passed, passed_row, past, step, tag, tree_of, within, Row}
use Rattle.typst_highlight.specs.declared.rules.Rule.TheVariants as rule

neither : (x y : Option (Option Tag)) → if_found x y ≡ None → (x ≡ None) × (y ≡ None)
neither x y e = grind arith

not_chosen : (b : Bool) (x : Option Tag) (y : Option (Option Tag)) → cond b (Some x) y ≡ None → (b ≡ false) × (y ≡ None)
not_chosen b x y e = grind arith

-- the last leaves behind trees without a leaf are those before them
leafless : (c : Context) (f : Forest) → (found c f).leaf ≡ None → passed_row c f ≡ c.trail
leafless c none e = refl
leafless c (more h ks r) e =
    let t : Tree = tree_of h ks in
    let inner : Option (Option Tag) = (found (within c t r) ks).leaf in
    let later : Option (Option Tag) = (found (past c t (passed c t r)) r).leaf in
    let both = neither (cond (is_leaf t) (Some (tag c t r)) inner) later e in
    let own = not_chosen (is_leaf t) (tag c t r) inner both.0 in
    let mine : passed c t r ≡ c.trail = ap (λ b. cond b (step c t r) (passed_row (within c t r) ks)) own.0 ∙ leafless (within c t r) ks own.1 in
    leafless (past c t (passed c t r)) r both.1 ∙ mine

same_found : (x y z : Option (Option Tag)) → (x ≡ None → y ≡ z) → if_found x y ≡ if_found x z
same_found x y z h = grind arith

found_assoc : (x y z : Option (Option Tag)) → if_found (if_found x y) z ≡ if_found x (if_found y z)
found_assoc x y z = grind arith

found_alone : (x : Option (Option Tag)) → if_found x None ≡ x
found_alone x = grind arith

-- the first leaf is below the first tree or behind it, with the same leaves before it
pub over : (c : Context) (t : Tree) (r : Forest) → is_leaf t ≡ false → (found c (more t.head t.kids r)).leaf ≡ if_found (found (within c t r) t.kids).leaf (found (past c t c.trail) r).leaf
over c t r not_so = grind (arith, cond, leafless, same_found)

either : (x y : Option (Option Tag)) → is_some (if_found x y) ≡ (is_some x || is_some y)
either x y = grind arith

-- whether there is a first leaf
held : (c : Context) (f : Forest) → is_some (found c f).leaf ≡ holds_leaf f
held c none = refl
held c (more h ks r) =
    let t : Tree = tree_of h ks in
    let inner : Option (Option Tag) = (found (within c t r) ks).leaf in
    let later : Option (Option Tag) = (found (past c t (passed c t r)) r).leaf in
    let both : is_some (if_found inner later) ≡ (holds_leaf ks || holds_leaf r) = either inner later ∙ (λ i. held (within c t r) ks i || held (past c t (passed c t r)) r i) in
    elim (is_leaf t) as (λ b. is_some (if_found (cond b (Some (tag c t r)) inner) later) ≡ (b || (holds_leaf ks || holds_leaf r))) [ true ↦ refl | false ↦ both ]

some_found : (x y z : Option (Option Tag)) → is_some x ≡ true → if_found x y ≡ if_found x z
some_found x y z e = grind arith

none_found : (x y : Option (Option Tag)) → is_some x ≡ false → if_found x y ≡ y
none_found x y e = grind arith

-- into the first tree, with what is behind it to go on at, if that holds a leaf
pub into_held : (c : Context) (t : Tree) (r : Forest) (b : Option (Option Tag)) → is_leaf t ≡ false → holds_leaf r ≡ true → if_found (found c (more t.head t.kids r)).leaf b ≡ if_found (found (within c t r) t.kids).leaf (found (past c t c.trail) r).leaf
into_held c t r b not_so h =
    let inner : Option (Option Tag) = (found (within c t r) t.kids).leaf in
    let rest : Option (Option Tag) = (found (past c t c.trail) r).leaf in
    ap (λ x. if_found x b) (over c t r not_so)
    ∙ (found_assoc inner rest b
    ∙ ap (if_found inner) (some_found rest b None (held (past c t c.trail) r ∙ h) ∙ found_alone rest))

pub into_bare : (c : Context) (t : Tree) (r : Forest) (b : Option (Option Tag)) → is_leaf t ≡ false → holds_leaf r ≡ false → if_found (found c (more t.head t.kids r)).leaf b ≡ if_found (found (within c t r) t.kids).leaf b
into_bare c t r b not_so h =
    let inner : Option (Option Tag) = (found (within c t r) t.kids).leaf in
    let rest : Option (Option Tag) = (found (past c t c.trail) r).leaf in
    ap (λ x. if_found x b) (over c t r not_so)
    ∙ (found_assoc inner rest b ∙ ap (if_found inner) (none_found rest b (held (past c t c.trail) r ∙ h)))

-- past the first tree, where it holds no leaf
pub over_bare : (c : Context) (t : Tree) (r : Forest) (b : Option (Option Tag)) → is_leaf t ≡ false → None ≡ (found (within c t r) t.kids).leaf → if_found (found c (more t.head t.kids r)).leaf b ≡ if_found (found (past c t c.trail) r).leaf b
over_bare c t r b not_so e =
    ap (λ x. if_found x b) (over c t r not_so ∙ ap (λ x. if_found x (found (past c t c.trail) r).leaf) (sym e))

-- the first leaf is the first tree
pub leaf_found : (c : Context) (t : Tree) (r : Forest) (b : Option (Option Tag)) → is_leaf t ≡ true → if_found (found c (more t.head t.kids r)).leaf b ≡ Some (tag c t r)
leaf_found c t r b is_so = grind arith

-- the first leaf of what a search goes on at
abbrev pub leaf_behind : Option Row → Option (Option Tag)
leaf_behind None = None
leaf_behind (Some b) = (found b.context (forest b.nodes.now)).leaf

-- how many steps a search takes there
abbrev pub steps_behind : Option Row → ℕ
steps_behind None = 0
steps_behind (Some b) = 1 + 2 * count (forest b.nodes.now)
