-- What a walk finds doesn't depend on the leaf before the last one, unless the last one is a dot.
use Rattle.typst_highlight.proofs.Cited.{◌≡◌, Bool, Option, refl, ap, cond, arith, Forest, none, more, Tree, is_leaf, Tag, Rule, Trail, Context, tree_of, within, past, passed, passed_row, name, step, behind_dot, tag_here, tag, found}

-- the last leaves as far as tags depend on them
pub record Alike (t u : Trail) : Type 0 where
  pub before : t.before ≡ u.before
  pub name : t.name ≡ u.name
  pub dotted : behind_dot t ≡ behind_dot u

-- contexts that differ in such leaves alone
pub record Near (c d : Context) : Type 0 where
  pub parent : c.parent ≡ d.parent
  pub outer : c.outer ≡ d.outer
  pub offset : c.offset ≡ d.offset
  pub trail : Alike c.trail d.trail
  pub ahead : c.ahead ≡ d.ahead

pub same_trail : (t u : Trail) → t ≡ u → Alike t u
same_trail t u e = record { before = ap (λ x. x.before) e; name = ap (λ x. x.name) e; dotted = ap behind_dot e }

pub same_context : (c : Context) → Near c c
same_context c = record { parent = refl; outer = refl; offset = refl; trail = same_trail c.trail c.trail refl; ahead = refl }

step_near : (c d : Context) (t : Tree) (r : Forest) → Near c d → step c t r ≡ step d t r
step_near c d t r w = grind arith

pub within_near : (c d : Context) (t : Tree) (r : Forest) → Near c d → Near (within c t r) (within d t r)
within_near c d t r w = grind arith

pub past_near : (c d : Context) (s : Tree) (t u : Trail) → Near c d → Alike t u → Near (past c s t) (past d s u)
past_near c d s t u w v = grind arith

either_alike : (b : Bool) (t u v x : Trail) → t ≡ u → Alike v x → Alike (cond b t v) (cond b u x)
either_alike b t u v x e w = grind arith

pub row_near : (c d : Context) (f : Forest) → Near c d → Alike (passed_row c f) (passed_row d f)
row_near c d none w = w.trail
row_near c d (more h ks r) w =
    let t : Tree = tree_of h ks in
    let inner : Alike (passed_row (within c t r) ks) (passed_row (within d t r) ks) = row_near (within c t r) (within d t r) ks (within_near c d t r w) in
    let behind = either_alike (is_leaf t) (step c t r) (step d t r) (passed_row (within c t r) ks) (passed_row (within d t r) ks) (step_near c d t r w) inner in
    row_near (past c t (cond (is_leaf t) (step c t r) (passed_row (within c t r) ks))) (past d t (cond (is_leaf t) (step d t r) (passed_row (within d t r) ks))) r (past_near c d t _ _ w behind)

-- the last leaves behind a node
pub passed_near : (c d : Context) (t : Tree) (r : Forest) → Near c d → Alike (passed c t r) (passed d t r)
passed_near c d t r w = grind (arith, either_alike, step_near, row_near, within_near)

here_near : (u : Rule) (c d : Context) (t : Tree) (r : Forest) (e : Option Tag) → Near c d → tag_here u c t r e ≡ tag_here u d t r e
here_near u c d t r e w = grind arith

behind_near : (c d : Context) (t : Tree) (r : Forest) → Near c d → Near (past c t (passed c t r)) (past d t (passed d t r))
behind_near c d t r w = past_near c d t (passed c t r) (passed d t r) w (passed_near c d t r w)

-- what is found in trees that stand side by side
pub found_near : (c d : Context) (f : Forest) → Near c d → found c f ≡ found d f
found_near c d none w = refl
found_near c d (more h ks r) w =
    let t : Tree = tree_of h ks in
    let inner : found (within c t r) ks ≡ found (within d t r) ks = found_near (within c t r) (within d t r) ks (within_near c d t r w) in
    let later : found (past c t (passed c t r)) r ≡ found (past d t (passed d t r)) r = found_near (past c t (passed c t r)) (past d t (passed d t r)) r (behind_near c d t r w) in
    grind (arith, here_near, cond)

-- the tag of a node
pub tag_near : (c d : Context) (t : Tree) (r : Forest) → Near c d → tag c t r ≡ tag d t r
tag_near c d t r w = grind (arith, found_near, behind_near, here_near)
