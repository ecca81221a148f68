-- Numbers that stand in order.
use Rattle.typst_tree.proofs.Cited.{◌≡◌, ℕ, ◌+◌, ◌*◌, ◌/◌, ◌<◌, ◌≤◌, Bool, true, false, List, ◌∷◌, ◌++◌, refl, ap, arith, [], All, All-cons, AllPairs-cons, number_of, Head, Forest, none, more, Tree, count, nodes, stride, placed, numbered_forest, numbered, mul-le-mul_left}
use Rattle.typst_tree.specs.Order.{IsWholeForest, IsWhole, numbers, numbers_of, AreInOrder, upper_at, IsOrdered, IsNumbered}

-- a stride gives each node a number
pub stride_step : (p n : ℕ) → 0 < n → n ≤ p → 0 < stride p n
stride_step p n pos le = grind arith

pub stride_within : (p n : ℕ) → 0 < n → n * stride p n ≤ p
stride_within p n pos = grind arith

pub ordered_le : (a e : ℕ) (f : Forest) → IsOrdered a f e → a ≤ e
ordered_le a e none o = o
ordered_le a e (more h ks r) o =
    omega (arith, o.0, ordered_le (number_of h.span + 1) (upper_at h) ks o.1, ordered_le (upper_at h) e r o.2)

-- a stretch may begin earlier
pub ordered_from : (a b e : ℕ) (f : Forest) → IsOrdered a f e → b ≤ a → IsOrdered b f e
ordered_from a b e none o l = omega (arith, o)
ordered_from a b e (more h ks r) o l = (omega (arith, o.0), o.1, o.2)

-- and end later
pub ordered_to : (a e g : ℕ) (f : Forest) → IsOrdered a f e → e ≤ g → IsOrdered a f g
ordered_to a e g none o l = omega (arith, o)
ordered_to a e g (more h ks r) o l = (o.0, o.1, ordered_to (upper_at h) e g r o.2 l)

pub placed_ordered : (file i a e g : ℕ) (h : Head) (ks r : Forest) → 0 < i → a + i ≤ e → (h.is_inner ≡ false → ks ≡ none) → IsOrdered (a + i) ks e → IsOrdered e r g → IsOrdered a (more (placed file i a e h) ks r) g
placed_ordered file i a e g h ks r pos le leaf kids rest = at_kind h.is_inner refl
  where
    at_kind : (b : Bool) → h.is_inner ≡ b → IsOrdered a (more (placed file i a e h) ks r) g
    at_kind true q = rw q (omega arith, ordered_from (a + i) (a + i / 2 + 1) e ks kids (omega arith), rest)
    at_kind false q =
        let bare : ks ≡ none = leaf q in rw (q, bare) (omega arith, omega arith, ordered_from e ((a + e) / 2 + 1) g r rest (omega arith))

pub numbered_ordered : (file s a : ℕ) (f : Forest) → 0 < s → IsWholeForest f → IsOrdered a (numbered_forest file s a f) (a + count f * s)
numbered_ordered file s a none pos w = omega arith
numbered_ordered file s a (more h ks r) pos w =
    let n = 1 + count ks in
    let p = n * s in
    let i = stride p n in
    let one : n * 1 ≤ n * s = mul-le-mul_left n pos in
    let enough : n ≤ p = omega (arith, one) in
    let step : 0 < i = stride_step p n (omega arith) enough in
    let within : n * i ≤ p = stride_within p n (omega arith) in
    let kids : IsOrdered (a + i) (numbered_forest file i (a + i) ks) (a + p) = ordered_to (a + i) (a + i + count ks * i) (a + p) (numbered_forest file i (a + i) ks) (numbered_ordered file i (a + i) ks step w.1) (omega (arith, within)) in
    let rest : IsOrdered (a + p) (numbered_forest file s (a + p) r) (a + (1 + (count ks + count r)) * s) = ordered_to (a + p) (a + p + count r * s) (a + (1 + (count ks + count r)) * s) (numbered_forest file s (a + p) r) (numbered_ordered file s (a + p) r pos w.2) (omega arith) in
    placed_ordered file i a (a + p) (a + (1 + (count ks + count r)) * s) h (numbered_forest file i (a + i) ks) (numbered_forest file s (a + p) r) step (omega (arith, within)) (λ q. ap (numbered_forest file i (a + i)) (w.0 q)) kids rest

pub numbered_is : (file a p : ℕ) (t : Tree) → nodes t ≤ p → IsWhole t → IsNumbered (numbered file a p t)
numbered_is file a p t le w =
    let n = nodes t in
    let i = stride p n in
    let step : 0 < i = stride_step p n (omega arith) le in
    let within : n * i ≤ p = stride_within p n (omega arith) in
    let kids : IsOrdered (a + i) (numbered_forest file i (a + i) t.kids) (a + p) = ordered_to (a + i) (a + i + count t.kids * i) (a + p) (numbered_forest file i (a + i) t.kids) (numbered_ordered file i (a + i) t.kids step w.1) (omega (arith, within)) in
    let all = placed_ordered file i a (a + p) (a + p) t.head (numbered_forest file i (a + i) t.kids) none step (omega (arith, within)) (λ q. ap (numbered_forest file i (a + i)) (w.0 q)) kids (omega arith) in
    all.1

-- the numbers of a list climb from a to e
abbrev Climbs : ℕ → List ℕ → ℕ → Type 0
Climbs a [] e = a ≤ e
Climbs a (x ∷ xs) e = (a ≤ x) × Climbs (x + 1) xs e

climbs_append : (a b e : ℕ) (xs ys : List ℕ) → Climbs a xs b → Climbs b ys e → Climbs a (xs ++ ys) e
climbs_append a b e [] [] c d = omega (arith, c, d)
climbs_append a b e [] (y ∷ ys) c d = (omega (arith, c, d.0), d.1)
climbs_append a b e (x ∷ xs) ys c d = (c.0, climbs_append (x + 1) b e xs ys c.1 d)

ordered_climbs : (a e : ℕ) (f : Forest) → IsOrdered a f e → Climbs a (numbers f) e
ordered_climbs a e none o = o
ordered_climbs a e (more h ks r) o =
    (o.0, climbs_append (number_of h.span + 1) (upper_at h) e (numbers ks) (numbers r) (ordered_climbs (number_of h.span + 1) (upper_at h) ks o.1) (ordered_climbs (upper_at h) e r o.2))

above : (x a e : ℕ) (xs : List ℕ) → x < a → Climbs a xs e → All (λ y. x < y) xs
above x a e [] l c = λ k d h. absurd (omega arith)
above x a e (y ∷ ys) l c = All-cons (λ z. x < z) y ys (omega (arith, c.0)) (above x (y + 1) e ys (omega (arith, c.0)) c.1)

in_order : (a e : ℕ) (xs : List ℕ) → Climbs a xs e → AreInOrder xs
in_order a e [] c = λ i j d h k. absurd (omega arith)
in_order a e (x ∷ xs) c =
    AllPairs-cons (λ y z. y < z) x xs (above x (x + 1) e xs (omega arith) c.1) (in_order (x + 1) e xs c.1)

-- numbers of a numbered tree are in order
pub numbers_in_order : (t : Tree) → IsNumbered t → AreInOrder (numbers_of t)
numbers_in_order t o =
    in_order (number_of t.head.span) (upper_at t.head) (numbers_of t) (omega arith, ordered_climbs (number_of t.head.span + 1) (upper_at t.head) t.kids o)
