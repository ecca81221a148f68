-- What a search finds first, by a number that what it finds isn't below.
use Rattle.typst_tree.proofs.Cited.{◌≡◌, ℕ, ◌+◌, ◌<◌, ◌≤◌, Bool, true, false, cond, max, List, ◌∷◌, ◌++◌, length, Option, Some, None, ap, sym, subst, ◌∙◌, arith, length-append, [], IfSome, Tree, nodes, places, saturated, texts, first_at, if_none, Within, first_of, IsIn, FoundFrom}
use Rattle.typst_tree.specs.declared.search.Look.TheVariants as look
use Rattle.typst_tree.specs.declared.search.Spot.{Spot}
use Rattle.typst_tree.proofs.RisingNumbers.{if_some}
use Rattle.typst_tree.proofs.WalksInPreorder.{first_append, first_same, length_places}

not_below : (p : ℕ → ℕ → Tree → Bool) (n a : ℕ) (xs : List Tree) → IfSome (first_at p n a xs) (λ j. n ≤ j)
not_below p n a [] = tt
not_below p n a (t ∷ ts) =
    let next : IfSome (first_at p (n + 1) (a + length t.head.text) ts) (λ j. n ≤ j) = if_some (first_at p (n + 1) (a + length t.head.text) ts) (λ j. n + 1 ≤ j) (λ j. n ≤ j) (λ j h. omega (arith, h)) (not_below p (n + 1) (a + length t.head.text) ts) in
    elim (p n (saturated a) t) as (λ b. IfSome (cond b (Some n) (first_at p (n + 1) (a + length t.head.text) ts)) (λ j. n ≤ j)) [ true ↦ omega arith | false ↦ next ]

not_past : (p : ℕ → ℕ → Tree → Bool) (n a : ℕ) (xs : List Tree) → IfSome (first_at p n a xs) (λ j. j < n + length xs)
not_past p n a [] = tt
not_past p n a (t ∷ ts) =
    let next : IfSome (first_at p (n + 1) (a + length t.head.text) ts) (λ j. j < n + length (t ∷ ts)) = if_some (first_at p (n + 1) (a + length t.head.text) ts) (λ j. j < n + 1 + length ts) (λ j. j < n + length (t ∷ ts)) (λ j h. omega (arith, h)) (not_past p (n + 1) (a + length t.head.text) ts) in
    elim (p n (saturated a) t) as (λ b. IfSome (cond b (Some n) (first_at p (n + 1) (a + length t.head.text) ts)) (λ j. j < n + length (t ∷ ts))) [ true ↦ omega arith | false ↦ next ]

-- what is found in a list that has another one in it, by what is found before it, in it and behind it
record Parts (p : ℕ → ℕ → Tree → Bool) (n a : ℕ) (xs : List Tree) (k b : ℕ) (ys : List Tree) : Type 0 where
  front : Option ℕ
  back : Option ℕ
  whole : first_at p n a xs ≡ if_none front (if_none (first_at p k b ys) back)
  before : IfSome front (λ j. j < k)
  behind : IfSome back (λ j. k + length ys ≤ j)

parts : (p : ℕ → ℕ → Tree → Bool) (n a : ℕ) (xs : List Tree) (k b : ℕ) (ys : List Tree) → Within n a xs k b ys → Parts p n a xs k b ys
parts p n a xs k b ys w =
    let number : n + length w.front ≡ k = sym w.number in
    let offset : saturated (a + length (texts w.front)) ≡ saturated b = omega (arith, w.offset) in
    let here : first_at p (n + length w.front) (a + length (texts w.front)) ys ≡ first_at p k b ys = rw number (first_same p k (a + length (texts w.front)) b ys offset) in
    let rest = first_append p (n + length w.front) (a + length (texts w.front)) ys w.back in
    let behind : IfSome (first_at p (n + length w.front + length ys) (a + length (texts w.front) + length (texts ys)) w.back) (λ j. k + length ys ≤ j) = if_some _ (λ j. n + length w.front + length ys ≤ j) (λ j. k + length ys ≤ j) (λ j h. omega (arith, h, number)) (not_below p (n + length w.front + length ys) (a + length (texts w.front) + length (texts ys)) w.back) in
    record {
      front = first_at p n a w.front;
      back = first_at p (n + length w.front + length ys) (a + length (texts w.front) + length (texts ys)) w.back;
      whole = ap (first_at p n a) w.whole ∙ (first_append p n a w.front (ys ++ w.back) ∙ ap (if_none (first_at p n a w.front)) (rest ∙ ap (λ o. if_none o (first_at p (n + length w.front + length ys) (a + length (texts w.front) + length (texts ys)) w.back)) here));
      before = if_some (first_at p n a w.front) (λ j. j < n + length w.front) (λ j. j < k) (λ j h. omega (arith, h, number)) (not_past p n a w.front);
      behind = behind;
    }

part_from : (f x b : Option ℕ) (m k : ℕ) → IfSome f (λ j. j < k) → IfSome x (λ j. k ≤ j) → IfSome (if_none f (if_none x b)) (λ j. m ≤ j) → IfSome x (λ j. m ≤ j)
part_from f x b m k u v h = grind arith

part_on : (f x b : Option ℕ) (k m e : ℕ) → IfSome f (λ j. j < k) → IfSome b (λ j. e ≤ j) → IfSome (if_none f (if_none x b)) (λ j. k ≤ j) → IfSome x (λ j. m ≤ j) → m ≤ e → IfSome (if_none f (if_none x b)) (λ j. m ≤ j)
part_on f x b k m e u v h g l = grind arith

nothing_left : (o : Option ℕ) (m : ℕ) → IfSome o (λ j. m ≤ j) → IfSome o (λ j. j < m) → o ≡ None
nothing_left o m h g = grind arith

either : (o : Option ℕ) (m l r : ℕ) → r ≤ max m l → IfSome o (λ j. m ≤ j) → IfSome o (λ j. l ≤ j) → IfSome o (λ j. r ≤ j)
either o m l r e h g = grind arith

pub from_less : (p : ℕ → ℕ → Tree → Bool) (m l : ℕ) (o : Spot) → l ≤ m → FoundFrom p m o → FoundFrom p l o
from_less p m l o h = if_some (first_of p o) (λ j. m ≤ j) (λ j. l ≤ j) (λ j g. omega (arith, h, g))

pub from_either : (p : ℕ → ℕ → Tree → Bool) (m l r : ℕ) (o : Spot) → r ≤ max m l → FoundFrom p m o → FoundFrom p l o → FoundFrom p r o
from_either p m l r o = either (first_of p o) m l r

pub from_own : (p : ℕ → ℕ → Tree → Bool) (o : Spot) → FoundFrom p o.number o
from_own p o = not_below p o.number o.offset (places o.node.now)

pub from_none : (p : ℕ → ℕ → Tree → Bool) (m : ℕ) (o : Spot) → first_of p o ≡ None → FoundFrom p m o
from_none p m o e = subst (λ x. IfSome x (λ j. m ≤ j)) (sym e) tt

-- a node that doesn't pass the test itself
pub from_next : (p : ℕ → ℕ → Tree → Bool) (o : Spot) → ((a : ℕ) → false ≡ p o.number a o.node.now) → FoundFrom p (o.number + 1) o
from_next p o fails = grind (arith, cond, not_below)

-- what is known of a node is known of each below it
pub from_below : (p : ℕ → ℕ → Tree → Bool) (m : ℕ) (o s : Spot) → IsIn o s → FoundFrom p m o → FoundFrom p m s
from_below p m o s w h = grind (arith, parts p o.number o.offset (places o.node.now) s.number s.offset (places s.node.now) w, part_from, from_own)

-- what is found in a node below is found in all, where nothing is before that node
pub found_in : (p : ℕ → ℕ → Tree → Bool) (j : ℕ) (o s : Spot) → IsIn o s → FoundFrom p s.number o → first_of p s ≡ Some j → first_of p o ≡ Some j
found_in p j o s w h e = let q = parts p o.number o.offset (places o.node.now) s.number s.offset (places s.node.now) w in grind arith

-- what becomes known of a node below becomes known of all, where nothing is before that node
pub from_on : (p : ℕ → ℕ → Tree → Bool) (m : ℕ) (o s : Spot) → IsIn o s → FoundFrom p s.number o → FoundFrom p m s → m ≤ s.number + nodes s.node.now → FoundFrom p m o
from_on p m o s w h g l = grind (arith, parts p o.number o.offset (places o.node.now) s.number s.offset (places s.node.now) w, part_on, length_places)

-- a node below that doesn't pass the test itself
pub from_past_own : (p : ℕ → ℕ → Tree → Bool) (m r : ℕ) (o s : Spot) → IsIn o s → s.number ≤ m → FoundFrom p m o → ((a : ℕ) → false ≡ p s.number a s.node.now) → r ≤ max m (s.number + 1) → FoundFrom p r o
from_past_own p m r o s w l h fails e =
    from_either p m (s.number + 1) r o e h (from_on p (s.number + 1) o s w (from_less p m s.number o l h) (from_next p s fails) (omega arith))

-- nothing is found from a node's end on
pub from_past : (p : ℕ → ℕ → Tree → Bool) (m : ℕ) (o : Spot) → o.number + nodes o.node.now ≤ m → FoundFrom p m o → first_of p o ≡ None
from_past p m o l h =
    nothing_left (first_of p o) m h (if_some (first_of p o) (λ j. j < o.number + length (places o.node.now)) (λ j. j < m) (λ j g. omega (arith, g, l, length_places o.node.now)) (not_past p o.number o.offset (places o.node.now)))

-- a node's numbers are among those of each that it is below
pub among : (o s : Spot) → IsIn o s → (o.number ≤ s.number) × (s.number + nodes s.node.now ≤ o.number + nodes o.node.now)
among o s w =
    (omega (arith, w.number), omega (arith, w.number, ap length w.whole, length_places s.node.now, length_places o.node.now, length-append w.front (places s.node.now ++ w.back), length-append (places s.node.now) w.back))
