-- Replacing keeps numbers in order.
use Rattle.typst_tree.proofs.Cited.{◌≡◌, ℕ, zero, suc, ◌+◌, ◌-◌, ◌*◌, ◌<◌, ◌≤◌, ◌==◌, max, false, IsTrue, List, ◌∷◌, ◌++◌, length, take, drop, Some, refl, ap, sym, ◌∙◌, subst, arith, if◌then◌else◌, rules, [], set, nat_tests, number_of, Head, Tree, forest, count, stride, numbered_list, front, IsWholeForest, IsWhole, upper_at, IsOrdered, IsNumbered, numbers_of, AreInOrder, Along, slice_get, slice_range}
use Rattle.typst_tree.specs.Replace.{kids_of, with_kids, upper_of, upper_or, number_or, start_of, end_of, left_of, right_of, wanted, room, stretch, back, exchanged, renumbered, replaced, replaced_at, Reaches}
use Rattle.typst_tree.proofs.SpansAside.{forest_trees}
use Rattle.typst_tree.proofs.Numbering.{forest_numbered, some_nodes}
use Rattle.typst_tree.proofs.NumbersInOrder.{stride_step, stride_within, ordered_le, ordered_from, ordered_to, numbered_ordered, numbers_in_order}
use Rattle.typst_tree.proofs.Stretches.{count-append, growth_has_room, le_from}
use Rattle.typst_tree.proofs.SetAside.{aside}
use Rattle.typst_tree.proofs.AlongPath.{inside, exchange_some, exchange_none, grown, along}
use Rattle.typst_tree.proofs.ChildlessLeaves.{whole_left, whole_right, whole_numbered}

-- where the numbers of the trees from l on begin
begin : ℕ → List Tree → ℕ → ℕ
begin a xs zero = a
begin a [] (suc l) = a
begin a (x ∷ xs) (suc l) = begin (upper_of x) xs l

pub positive : (l : ℕ) → (suc l == 0) ≡ false
positive l = grind (arith, nat_tests)

begin_is : (a d : ℕ) (xs : List Tree) (l : ℕ) → l ≤ length xs → (if l == 0 then a else upper_or d (slice_get xs (l - 1))) ≡ begin a xs l
unfolding begin
begin_is a d xs zero h = refl
begin_is a d [] (suc l) h = absurd (omega arith)
begin_is a d (x ∷ xs) (suc zero) h = refl
begin_is a d (x ∷ xs) (suc (suc l)) h =
    let one : suc (suc l) - 1 ≡ suc l = omega arith in
    let two : suc l - 1 ≡ l = omega arith in
    grind (arith, begin_is (upper_of x) d xs (suc l) (omega arith), positive)

-- trees in order, cut before l
ordered_take : (a e : ℕ) (xs : List Tree) (l : ℕ) → IsOrdered a (forest xs) e → IsOrdered a (forest (take l xs)) (begin a xs l)
unfolding begin
ordered_take a e xs zero o = omega arith
ordered_take a e [] (suc l) o = omega arith
ordered_take a e (x ∷ xs) (suc l) o = (o.0, o.1, ordered_take (upper_at x.head) e xs l o.2)

ordered_drop : (a e : ℕ) (xs : List Tree) (r : ℕ) → IsOrdered a (forest xs) e → IsOrdered (number_or e (slice_get xs r)) (forest (drop r xs)) e
ordered_drop a e [] zero o = omega arith
ordered_drop a e [] (suc r) o = omega arith
ordered_drop a e (x ∷ xs) zero o = (omega arith, o.1, o.2)
ordered_drop a e (x ∷ xs) (suc r) o = ordered_drop (upper_at x.head) e xs r o.2

-- what is before l ends before r begins
begin_le : (a e : ℕ) (xs : List Tree) (l r : ℕ) → l ≤ r → IsOrdered a (forest xs) e → begin a xs l ≤ number_or e (slice_get xs r)
unfolding begin
begin_le a e [] zero r h o = o
begin_le a e [] (suc l) r h o = o
begin_le a e (x ∷ xs) zero zero h o = o.0
begin_le a e (x ∷ xs) zero (suc r) h o =
    omega (arith, o.0, ordered_le (number_of x.head.span + 1) (upper_at x.head) x.kids o.1, begin_le (upper_at x.head) e xs zero r (omega arith) o.2)
begin_le a e (x ∷ xs) (suc l) zero h o = absurd (omega arith)
begin_le a e (x ∷ xs) (suc l) (suc r) h o = begin_le (upper_at x.head) e xs l r (omega arith) o.2

ordered-append : (a b e : ℕ) (xs ys : List Tree) → IsOrdered a (forest xs) b → IsOrdered b (forest ys) e → IsOrdered a (forest (xs ++ ys)) e
ordered-append a b e [] ys o p = ordered_from b a e (forest ys) p o
ordered-append a b e (x ∷ xs) ys o p = (o.0, o.1, ordered-append (upper_at x.head) b e xs ys o.2 p)

-- a list numbered in a stretch that holds it
list_ordered : (file s a e : ℕ) (ts : List Tree) → 0 < s → IsWholeForest (forest ts) → a + count (forest ts) * s ≤ e → IsOrdered a (forest (numbered_list file s a ts)) e
list_ordered file s a e ts pos w h = search (rules, forest_numbered, ordered_to, numbered_ordered)

-- the children of an inner node, some of which are renumbered
renumbered_ordered : (file : ℕ) (h : Head) (xs : List Tree) (from to by : ℕ) (ns : List Tree) → 0 < length ns → from ≤ to → to ≤ length xs → wanted xs from to (count (forest ns)) by ≤ room h xs from to by →
    IsWholeForest (forest (renumbered file xs from to ns (stretch h xs from to (count (forest ns)) by))) → IsOrdered (number_of h.span + 1) (forest xs) h.upper → IsOrdered (number_of h.span + 1) (forest (renumbered file xs from to ns (stretch h xs from to (count (forest ns)) by))) h.upper
renumbered_ordered file h xs from to by ns some order within fits w o =
    let counted : count (forest (slice_range xs (left_of from by) from ++ (ns ++ slice_range xs to (right_of xs to by)))) ≡ wanted xs from to (count (forest ns)) by =
    omega (arith, count-append (slice_range xs (left_of from by) from) (ns ++ slice_range xs to (right_of xs to by)), count-append ns (slice_range xs to (right_of xs to by))) in
    let pos : 0 < wanted xs from to (count (forest ns)) by = omega (arith, some_nodes ns some) in
    let step = stride_step (room h xs from to by) (wanted xs from to (count (forest ns)) by) pos fits in
    let share = stride_within (room h xs from to by) (wanted xs from to (count (forest ns)) by) pos in
    let starts : start_of h xs (left_of from by) ≡ max 2 (begin (number_of h.span + 1) xs (left_of from by)) =
    ap (max 2) (begin_is (number_of h.span + 1) (number_of h.span + 1) xs (left_of from by) (omega arith)) in
    let low : begin (number_of h.span + 1) xs (left_of from by) ≤ start_of h xs (left_of from by) = omega (arith, starts) in
    let high : start_of h xs (left_of from by) + room h xs from to by ≤ end_of h xs (right_of xs to by) = omega (arith, pos, fits) in
    let first : IsOrdered (number_of h.span + 1) (forest (take (left_of from by) xs)) (start_of h xs (left_of from by)) =
    ordered_to (number_of h.span + 1) (begin (number_of h.span + 1) xs (left_of from by)) (start_of h xs (left_of from by)) (forest (take (left_of from by) xs)) (ordered_take (number_of h.span + 1) h.upper xs (left_of from by) o) low in
    let whole : IsWholeForest (forest (slice_range xs (left_of from by) from ++ (ns ++ slice_range xs to (right_of xs to by)))) =
    whole_numbered file (stride (room h xs from to by) (wanted xs from to (count (forest ns)) by)) (start_of h xs (left_of from by)) (slice_range xs (left_of from by) from ++ (ns ++ slice_range xs to (right_of xs to by))) (whole_left (numbered_list file (stride (room h xs from to by) (wanted xs from to (count (forest ns)) by)) (start_of h xs (left_of from by)) (slice_range xs (left_of from by) from ++ (ns ++ slice_range xs to (right_of xs to by)))) (drop (right_of xs to by) xs) (whole_right (take (left_of from by) xs) ((numbered_list file (stride (room h xs from to by) (wanted xs from to (count (forest ns)) by)) (start_of h xs (left_of from by)) (slice_range xs (left_of from by) from ++ (ns ++ slice_range xs to (right_of xs to by)))) ++ drop (right_of xs to by) xs) w)) in
    let second = list_ordered file (stride (room h xs from to by) (wanted xs from to (count (forest ns)) by)) (start_of h xs (left_of from by)) (end_of h xs (right_of xs to by)) (slice_range xs (left_of from by) from ++ (ns ++ slice_range xs to (right_of xs to by))) step whole (rw counted (omega (arith, share, high))) in
    grind (arith, ordered_drop, ordered-append)

exchanged_ordered : (file : ℕ) (h : Head) (xs : List Tree) (from to : ℕ) (ns ys : List Tree) → from ≤ to → to ≤ length xs → IsWholeForest (forest ys) → exchanged file h xs from to ns ≡ Some ys → IsOrdered (number_of h.span + 1) (forest xs) h.upper → IsOrdered (number_of h.span + 1) (forest ys) h.upper
exchanged_ordered file h xs from to [] ys order within w e o =
    let first = ordered_to (number_of h.span + 1) (begin (number_of h.span + 1) xs from) (number_or h.upper (slice_get xs to)) (forest (take from xs)) (ordered_take (number_of h.span + 1) h.upper xs from o) (begin_le (number_of h.span + 1) h.upper xs from to order o) in
    grind (arith, ordered-append, ordered_drop, exchange_none)
exchanged_ordered file h xs from to (n ∷ ns) ys order within w e o =
    let x = exchange_some file h xs from to n ns ys e in
    let g = grown h xs from to (count (forest (n ∷ ns))) x.window x.fits in
    let fits : wanted xs from to (count (forest (n ∷ ns))) g.by ≤ room h xs from to g.by =
    le_from _ _ (growth_has_room h xs from to (count (forest (n ∷ ns))) (length xs + 1) 0 g.by g.grows) in
    let is : renumbered file xs from to (n ∷ ns) (stretch h xs from to (count (forest (n ∷ ns))) g.by) ≡ ys = ap (renumbered file xs from to (n ∷ ns)) g.is ∙ x.is in
    let whole = subst (λ (zs : List Tree). IsWholeForest (forest zs)) (sym is) w in
    subst (λ (zs : List Tree). IsOrdered (number_of h.span + 1) (forest zs) h.upper) is (renumbered_ordered file h xs from to g.by (n ∷ ns) (omega arith) order within fits whole o)

-- what stays as it is of a node, and what stays in order
pub record StaysNumbered (t u : Tree) : Type 0 where
  pub head : u.head ≡ t.head
  pub numbers : IsWhole u → IsNumbered t → IsNumbered u

inner_upper : (h : Head) → IsTrue h.is_inner → upper_at h ≡ h.upper
inner_upper h i = rw i refl

pub replaced_numbered : (from to : ℕ) (new : List Tree) (t u : Tree) → Reaches [] from to t → replaced from to new t ≡ Some u → StaysNumbered t u
replaced_numbered from to new t u r e =
    let i = inside t u from to new e in
    let a = front (slice_range (kids_of t) from to) new in
    let b = back a (slice_range (kids_of t) from to) new in
    let s = aside (kids_of t) new from to a b r.1 r.2 refl refl in
    grind (arith, forest_trees, inner_upper, exchanged_ordered)

whole_set : (xs : List Tree) (i : ℕ) (k k' : Tree) → slice_get xs i ≡ Some k → IsWholeForest (forest (set xs i k')) → IsWhole k'
whole_set [] i k k' e w = absurd (cc)
whole_set (x ∷ xs) zero k k' e w = (w.0, w.1)
whole_set (x ∷ xs) (suc i) k k' e w = whole_set xs i k k' e w.2

-- one of several trees in order, of which the numbers below it change
ordered_set : (a e : ℕ) (xs : List Tree) (i : ℕ) (k k' : Tree) → slice_get xs i ≡ Some k → k'.head ≡ k.head → (IsNumbered k → IsNumbered k') → IsOrdered a (forest xs) e → IsOrdered a (forest (set xs i k')) e
ordered_set a e [] i k k' s h f o = absurd (cc)
ordered_set a e (x ∷ xs) zero k k' s h f o = grind arith
ordered_set a e (x ∷ xs) (suc i) k k' s h f o = (o.0, o.1, ordered_set (upper_at x.head) e xs i k k' s h f o.2)

-- along the path too
pub stays_along : (path : List ℕ) (t u : Tree) → Along StaysNumbered path t u → StaysNumbered t u
stays_along [] t u l = l
stays_along (i ∷ path) t u l =
    let below = stays_along path l.0 l.1 l.4 in
    let is : forest (kids_of t) ≡ t.kids = forest_trees t.kids in
    let stays : IsWhole (with_kids t (set (kids_of t) i l.1)) → IsNumbered t → IsNumbered (with_kids t (set (kids_of t) i l.1)) =
    λ w o. ordered_set (number_of t.head.span + 1) (upper_at t.head) (kids_of t) i l.0 l.1 l.2 below.head (below.numbers (whole_set (kids_of t) i l.0 l.1 l.2 w.1)) (rw is o) in
    grind arith

pub keeps_order : (path : List ℕ) (from to : ℕ) (new : List Tree) (t u : Tree) → IsWhole u → Reaches path from to t → replaced_at path from to new t ≡ Some u → IsNumbered t → IsNumbered u × AreInOrder (numbers_of u)
keeps_order path from to new t u w r e o =
    let s = stays_along path t u (along StaysNumbered from to new (replaced_numbered from to new) path t u r e) in
    let n : IsNumbered u = s.numbers w o in (n, numbers_in_order u n)
