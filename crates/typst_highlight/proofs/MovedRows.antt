-- Trees at another place, where what is round them is the same: they have the same tags.
use Rattle.typst_highlight.proofs.Cited.{◌≡◌, ℕ, ◌+◌, ◌-◌, ◌^◌, ◌≤◌, ◌==◌, Bool, true, false, ◌++◌, length, Option, None, Some, refl, ap, arith, cond, length-append, Head, SyntaxKind, is_leaf, Tag, Rule, Ahead, Context, Trail, is_called, kind_ahead, rule_of, is_field_access, around, behind_dot, end, first_ahead, first_leaf, found, lead, name, next_leaf, outer_around, outer_lead, passed, passed_row, past, step, tag, tag_here, tree_of, within, Outer, is_plain, begins_plain}
use Rattle.typst_tree.specs.Tree.{Forest, none, more, Tree, joined, saturated, text_of}
use Rattle.typst_highlight.specs.declared.tags.Tag.TheVariants as tags
use Rattle.typst_highlight.proofs.BeforeEdges.{IsEdge, IsPlain, first_plain, no_access, plain}
use Rattle.typst_highlight.proofs.Cases.{bool_cases}

-- ---- places that are moved: b is to n what a is to m

-- the same leaf, moved
pub record MovedLeaf (m n : ℕ) (x y : Ahead) : Type 0 where
  pub same_kind : y.kind ≡ x.kind
  pub same_parent : y.parent ≡ x.parent
  pub moved : y.offset + m ≡ x.offset + n

-- the same leaf, moved, or none in both
abbrev pub IsMoved : ℕ → ℕ → Option Ahead → Option Ahead → Type 0
IsMoved m n None None = Unit {0}
IsMoved m n None (Some y) = ⊥
IsMoved m n (Some x) None = ⊥
IsMoved m n (Some x) (Some y) = MovedLeaf m n x y

-- last leaves that say the same to what follows
pub record Alike (s t : Trail) : Type 0 where
  pub same_before : t.before ≡ s.before
  pub same_name : t.name ≡ s.name
  pub same_dot : behind_dot t ≡ behind_dot s

-- what is round trees is the same, moved, except for the last leaves
pub record MovedPlace (m n : ℕ) (c d : Context) : Type 0 where
  pub same_parent : d.parent ≡ c.parent
  pub same_outer : d.outer ≡ c.outer
  pub moved : d.offset + m ≡ c.offset + n
  pub moved_ahead : IsMoved m n c.ahead d.ahead

pub record Moved (m n : ℕ) (c d : Context) : Type 0 where
  pub place : MovedPlace m n c d
  pub trail : Alike c.trail d.trail

-- the trees end where bytes can be counted, at both places
pub record Counted (c d : Context) (f : Forest) : Type 0 where
  pub here : c.offset + length (joined f) ≤ 2 ^ 64 - 1
  pub there : d.offset + length (joined f) ≤ 2 ^ 64 - 1

pub row_length : (h : Head) (ks r : Forest) → length (joined (more h ks r)) ≡ length h.text + (length (joined ks) + length (joined r))
row_length h ks r = omega (arith, length-append h.text (joined ks ++ joined r), length-append (joined ks) (joined r))

pub tree_length : (t : Tree) → length (text_of t) ≡ length t.head.text + length (joined t.kids)
tree_length t = length-append t.head.text (joined t.kids)

pub counted_below : (c d : Context) (t : Tree) (q r : Forest) → Counted c d (more t.head t.kids r) → Counted (within c t q) (within d t q) t.kids
counted_below c d t q r b = grind (arith, row_length)

pub counted_past : (c d : Context) (t : Tree) (x y : Trail) (r : Forest) → Counted c d (more t.head t.kids r) → Counted (past c t x) (past d t y) r
counted_past c d t x y r b = grind (arith, row_length, tree_length)

-- ---- the next leaf

moved_either : (m n : ℕ) (x y u v : Option Ahead) → IsMoved m n x y → IsMoved m n u v → IsMoved m n (first_ahead x u) (first_ahead y v)
moved_either m n x y u v e f = grind arith

-- the first leaf of trees
moved_first : (m n a b : ℕ) (p q : Option SyntaxKind) (f : Forest) → q ≡ p → b + m ≡ a + n → a + length (joined f) ≤ 2 ^ 64 - 1 → b + length (joined f) ≤ 2 ^ 64 - 1 → IsMoved m n (first_leaf p a f) (first_leaf q b f)
moved_first m n a b p q none s e k l = tt
moved_first m n a b p q (more h ks r) s e k l =
    let t : Tree = tree_of h ks in
    let total = row_length h ks r in
    let whole = tree_length t in
    let x : Ahead = record { kind = h.kind; parent = p; offset = a } in
    let y : Ahead = record { kind = h.kind; parent = q; offset = b } in
    let own : MovedLeaf m n x y = record { same_kind = refl; same_parent = s; moved = e } in
    let below : IsMoved m n (first_leaf (Some h.kind) (saturated (a + length h.text)) ks) (first_leaf (Some h.kind) (saturated (b + length h.text)) ks) =
    moved_first m n (saturated (a + length h.text)) (saturated (b + length h.text)) (Some h.kind) (Some h.kind) ks refl (omega (arith, e, k, l, total)) (omega (arith, k, total)) (omega (arith, l, total)) in
    let later : IsMoved m n (first_leaf p (saturated (a + length (text_of t))) r) (first_leaf q (saturated (b + length (text_of t))) r) =
    moved_first m n (saturated (a + length (text_of t))) (saturated (b + length (text_of t))) p q r s (omega (arith, e, k, l, total, whole)) (omega (arith, k, total, whole)) (omega (arith, l, total, whole)) in
    grind arith

-- where a tree ends
moved_end : (m n : ℕ) (c d : Context) (t : Tree) (r : Forest) → MovedPlace m n c d → Counted c d (more t.head t.kids r) → end d t + m ≡ end c t + n
moved_end m n c d t r w b = omega (arith, w.moved, b.here, b.there, row_length t.head t.kids r, tree_length t)

-- the next leaf of a tree
moved_next : (m n : ℕ) (c d : Context) (t : Tree) (r : Forest) → MovedPlace m n c d → Counted c d (more t.head t.kids r) → IsMoved m n (next_leaf c t r) (next_leaf d t r)
moved_next m n c d t r w b = grind (arith, row_length, tree_length, moved_either, moved_first, moved_end)

-- ---- names

-- places that are moved alike are the same or not
pub same_test : (m n a b x y : ℕ) → x + m ≡ a + n → y + m ≡ b + n → (x == y) ≡ (a == b)
same_test m n a b x y e f = grind arith

called_same : (m n a b : ℕ) (x y : Option Ahead) → IsMoved m n x y → b + m ≡ a + n → is_called b y ≡ is_called a x
called_same m n a b None None w e = refl
called_same m n a b None (Some y) w e = absurd w
called_same m n a b (Some x) None w e = absurd w
called_same m n a b (Some x) (Some y) w e = let same : (y.offset == b) ≡ (x.offset == a) = same_test m n x.offset a y.offset b w.moved e in grind arith

kinds_same : (m n : ℕ) (x y : Option Ahead) → IsMoved m n x y → kind_ahead y ≡ kind_ahead x
kinds_same m n x y w = grind arith

around_same : (m n : ℕ) (c d : Context) → MovedPlace m n c d → around d ≡ around c
around_same m n c d w = λ i. outer_around (w.same_outer i) (w.same_parent i)

lead_same : (m n : ℕ) (c d : Context) → Moved m n c d → lead d ≡ lead c
lead_same m n c d w = λ i. outer_lead (w.place.same_outer i) (w.trail.same_before i)

pub moved_name : (m n : ℕ) (c d : Context) (t : Tree) (r : Forest) → Moved m n c d → Counted c d (more t.head t.kids r) → name d t r ≡ name c t r
moved_name m n c d t r w b =
    let next : IsMoved m n (next_leaf c t r) (next_leaf d t r) = moved_next m n c d t r w.place b in
    grind (arith, called_same, moved_end, kinds_same, around_same, lead_same)

-- ---- what is round others

pub moved_within : (m n : ℕ) (c d : Context) (t : Tree) (r : Forest) → Moved m n c d → Counted c d (more t.head t.kids r) → Moved m n (within c t r) (within d t r)
moved_within m n c d t r w b = grind (arith, around_same, lead_same, cond, row_length, moved_next)

pub moved_past : (m n : ℕ) (c d : Context) (t : Tree) (r : Forest) (x y : Trail) → MovedPlace m n c d → Counted c d (more t.head t.kids r) → Alike x y → Moved m n (past c t x) (past d t y)
moved_past m n c d t r x y w b a = grind (arith, moved_end)

moved_step : (m n : ℕ) (c d : Context) (t : Tree) (r : Forest) → Moved m n c d → Counted c d (more t.head t.kids r) → Alike (step c t r) (step d t r)
moved_step m n c d t r w b = grind (arith, cond, moved_name)

alike_choice : (b : Bool) (s t u v : Trail) → (b ≡ true → Alike s t) → (b ≡ false → Alike u v) → Alike (cond b s u) (cond b t v)
alike_choice b s t u v f g = grind arith

-- the last leaves behind trees
pub moved_row : (m n : ℕ) (c d : Context) (f : Forest) → Moved m n c d → Counted c d f → Alike (passed_row c f) (passed_row d f)
moved_row m n c d none w b = w.trail
moved_row m n c d (more h ks r) w b =
    let t : Tree = tree_of h ks in
    let one : Alike (passed c t r) (passed d t r) =
    alike_choice (is_leaf t) (step c t r) (step d t r) (passed_row (within c t r) ks) (passed_row (within d t r) ks)
    (λ e. moved_step m n c d t r w b)
    (λ e. moved_row m n (within c t r) (within d t r) ks (moved_within m n c d t r w b) (counted_below c d t r r b)) in
    moved_row m n (past c t (passed c t r)) (past d t (passed d t r)) r (moved_past m n c d t r (passed c t r) (passed d t r) w.place b one) (counted_past c d t (passed c t r) (passed d t r) r b)

pub moved_passed : (m n : ℕ) (c d : Context) (t : Tree) (r : Forest) → Moved m n c d → Counted c d (more t.head t.kids r) → Alike (passed c t r) (passed d t r)
moved_passed m n c d t r w b =
    alike_choice (is_leaf t) (step c t r) (step d t r) (passed_row (within c t r) t.kids) (passed_row (within d t r) t.kids)
    (λ e. moved_step m n c d t r w b)
    (λ e. moved_row m n (within c t r) (within d t r) t.kids (moved_within m n c d t r w b) (counted_below c d t r r b))

-- what is round what follows a tree
pub moved_later : (m n : ℕ) (c d : Context) (t : Tree) (r : Forest) → Moved m n c d → Counted c d (more t.head t.kids r) → Moved m n (past c t (passed c t r)) (past d t (passed d t r))
moved_later m n c d t r w b = moved_past m n c d t r (passed c t r) (passed d t r) w.place b (moved_passed m n c d t r w b)

-- ---- tags

moved_here : (m n : ℕ) (u : Rule) (c d : Context) (t : Tree) (r : Forest) (x y : Option Tag) → Moved m n c d → Counted c d (more t.head t.kids r) → y ≡ x → tag_here u d t r y ≡ tag_here u c t r x
moved_here m n u c d t r x y w b e = grind (arith, moved_name)

pub moved_found : (m n : ℕ) (c d : Context) (f : Forest) → Moved m n c d → Counted c d f → found d f ≡ found c f
moved_found m n c d none w b = refl
moved_found m n c d (more h ks r) w b =
    let t : Tree = tree_of h ks in
    let inner : found (within d t r) ks ≡ found (within c t r) ks = moved_found m n (within c t r) (within d t r) ks (moved_within m n c d t r w b) (counted_below c d t r r b) in
    let later : found (past d t (passed d t r)) r ≡ found (past c t (passed c t r)) r =
    moved_found m n (past c t (passed c t r)) (past d t (passed d t r)) r (moved_later m n c d t r w b) (counted_past c d t (passed c t r) (passed d t r) r b) in
    grind (arith, moved_here, cond)

-- a tree at another place has the same tag
pub moved_tag : (m n : ℕ) (c d : Context) (t : Tree) (r : Forest) → Moved m n c d → Counted c d (more t.head t.kids r) → tag d t r ≡ tag c t r
moved_tag m n c d t r w b =
    let later : found (past d t (passed d t r)) r ≡ found (past c t (passed c t r)) r =
    moved_found m n (past c t (passed c t r)) (past d t (passed d t r)) r (moved_later m n c d t r w b) (counted_past c d t (passed c t r) (passed d t r) r b) in
    moved_here m n (rule_of t.head.kind) c d t r (found (past c t (passed c t r)) r).expression (found (past d t (passed d t r)) r).expression w b (ap (λ x. x.expression) later)

-- ---- behind an edge nothing depends on the leaves before it

no_outer : (b : Bool) (x y : Outer) → b ≡ false → cond b (Some x) None ≡ cond b (Some y) None
no_outer b x y e = grind arith

plain_passed : (c d : Context) (t : Tree) (r : Forest) → IsPlain t → Alike (passed c t r) (passed d t r)
plain_passed c d t r p = grind arith

-- below a node that is no field access
place_within : (m n : ℕ) (c d : Context) (t : Tree) (r : Forest) → MovedPlace m n c d → Counted c d (more t.head t.kids r) → is_field_access t.head.kind ≡ false → MovedPlace m n (within c t r) (within d t r)
place_within m n c d t r w b e = grind (arith, no_outer, row_length, moved_next)

-- behind such a node whose first child is plain
begun_passed : (m n : ℕ) (c d : Context) (h : Head) (ks r : Forest) → MovedPlace m n c d → Counted c d (more h ks r) → is_field_access h.kind ≡ false → begins_plain ks ≡ true → Alike (passed c (tree_of h ks) r) (passed d (tree_of h ks) r)
begun_passed m n c d h none r w b e p = absurd (cc)
begun_passed m n c d h (more g is s) r w b e p =
    let t : Tree = tree_of h (more g is s) in
    let u : Tree = tree_of g is in
    let low : MovedPlace m n (within c t r) (within d t r) = place_within m n c d t r w b e in
    let room : Counted (within c t r) (within d t r) (more g is s) = counted_below c d t r r b in
    let one : Alike (passed (within c t r) u s) (passed (within d t r) u s) = plain_passed (within c t r) (within d t r) u s (plain u p) in
    moved_row m n (past (within c t r) u (passed (within c t r) u s)) (past (within d t r) u (passed (within d t r) u s)) s
    (moved_past m n (within c t r) (within d t r) u s (passed (within c t r) u s) (passed (within d t r) u s) low room one)
    (counted_past (within c t r) (within d t r) u (passed (within c t r) u s) (passed (within d t r) u s) s room)

pub behind_edge : (m n : ℕ) (c d : Context) (t : Tree) (r : Forest) → MovedPlace m n c d → Counted c d (more t.head t.kids r) → IsEdge t → Moved m n (past c t (passed c t r)) (past d t (passed d t r))
behind_edge m n c d t r w b e =
    let alike : Alike (passed c t r) (passed d t r) =
    bool_cases (is_plain t)
    (λ p. plain_passed c d t r (plain t p))
    (λ p. begun_passed m n c d t.head t.kids r w b (no_access t.head.kind e.expression) (first_plain t e p)) in
    moved_past m n c d t r (passed c t r) (passed d t r) w b alike
