-- The node at a path's end, exchanged for another one.
use Rattle.typst_tree.proofs.Cited.{◌≡◌, ℕ, zero, suc, ◌+◌, ◌<◌, ◌≤◌, List, ◌∷◌, length, drop, get_or, Option, Some, None, refl, ap, sym, subst, ◌∙◌, arith, append-nil, length-append, rules, [], set, drop_more, Head, Tree, forest, trees, joined, nodes, text_of, IsWholeForest, kids_of, with_kids, At, node_at, put_at, Reaches, replaced, replaced_at, option_map, option_and_then, slice_get, slice_set, slice_get_past}
use Rattle.typst_tree.proofs.SpansAside.{over, trees_forest, forest_trees}
use Rattle.typst_tree.proofs.Numbering.{some_nodes}
use Rattle.typst_tree.proofs.MovedCounts.{Moved, set_moved}
use Rattle.typst_tree.proofs.StepDown.{at_slice_get, slice_get_is}

-- the child that is at a place
pub got_at : (xs : List Tree) (i : ℕ) (k : Tree) → slice_get xs i ≡ Some k → (i < length xs) × (k ≡ get_or xs i k)
got_at [] i k e = absurd (cc)
got_at (x ∷ xs) zero k e = let same : x ≡ k = cc in (omega arith, sym same)
got_at (x ∷ xs) (suc i) k e = let r = got_at xs i k e in (omega (arith, r.0), r.1)

set_got : (xs : List Tree) (i : ℕ) (k : Tree) → slice_get xs i ≡ Some k → slice_set xs i k ≡ xs
set_got [] i k e = absurd (cc)
set_got (x ∷ xs) zero k e = let same : k ≡ x = cc in ap (λ y. y ∷ xs) same
set_got (x ∷ xs) (suc i) k e = ap (λ ys. x ∷ ys) (set_got xs i k e)

got_set : (xs : List Tree) (i : ℕ) (k l : Tree) → slice_get xs i ≡ Some k → slice_get (slice_set xs i l) i ≡ Some l
got_set [] i k l e = absurd (cc)
got_set (x ∷ xs) zero k l e = refl
got_set (x ∷ xs) (suc i) k l e = got_set xs i k l e

set_twice : (xs : List Tree) (i : ℕ) (k l : Tree) → slice_set (slice_set xs i k) i l ≡ slice_set xs i l
set_twice [] i k l = refl
set_twice (x ∷ xs) zero k l = refl
set_twice (x ∷ xs) (suc i) k l = ap (λ ys. x ∷ ys) (set_twice xs i k l)

map_same : (f g : Tree → Tree) → ((k : Tree) → f k ≡ g k) → (o : Option Tree) → option_map f o ≡ option_map g o
map_same f g e o = grind arith

with_own_kids : (t : Tree) → with_kids t (kids_of t) ≡ t
with_own_kids t = ap (λ f. record { head = t.head; kids = f }) (forest_trees t.kids)

at_then : (P : Tree → Type 0) (f : Tree → Option Tree) (o : Option Tree) → At P (option_and_then f o) → At (λ k. At P (f k)) o
at_then P f o h = grind arith

-- the value that is there
pub at_some : (P : Tree → Type 0) (o : Option Tree) → At P o → (t : Tree) × (o ≡ Some t) × P t
at_some P o h = grind arith

-- what holds where a path leads holds from the first step on
pub leads : (P : Tree → Type 0) (path rest : List ℕ) (i : ℕ) (t : Tree) (h : Head) (xs : List Tree) → over h xs ≡ t → path ≡ i ∷ rest → At P (node_at path t) → (i < length xs) × ((d : Tree) → At P (node_at rest (get_or xs i d)))
leads P path rest i t h xs e p a =
    let s : At P (option_and_then (node_at rest) (slice_get (trees (forest xs)) i)) = rw (p, ← e) at a in
    let r : At P (option_and_then (node_at rest) (slice_get xs i)) = rw trees_forest at s in
    at_slice_get (λ k. At P (node_at rest k)) xs i (at_then P (node_at rest) (slice_get xs i) r)

pub node_on : (path rest : List ℕ) (i : ℕ) (t k : Tree) (h : Head) (xs : List Tree) → over h xs ≡ t → path ≡ i ∷ rest → i < length xs → k ≡ get_or xs i k → node_at path t ≡ node_at rest k
node_on path rest i t k h xs e p n q = grind (arith, slice_get_is, trees_forest)

pub put_on : (path rest : List ℕ) (i : ℕ) (z t k l : Tree) (h : Head) (xs : List Tree) → over h xs ≡ t → path ≡ i ∷ rest → i < length xs → k ≡ get_or xs i k → put_at rest z k ≡ Some l → put_at path z t ≡ Some (over h (set xs i l))
put_on path rest i z t k l h xs e p n q r = grind (arith, slice_get_is, trees_forest)

-- the step down to child i
pub record Step (path : List ℕ) (i : ℕ) (z t u : Tree) : Type 0 where
  pub kid : Tree
  pub new : Tree
  pub found : slice_get (kids_of t) i ≡ Some kid
  pub puts : put_at path z kid ≡ Some new
  pub is : u ≡ with_kids t (slice_set (kids_of t) i new)

pub step : (path : List ℕ) (i : ℕ) (z t u : Tree) → put_at (i ∷ path) z t ≡ Some u → Step path i z t u
step path i z t u e = grind arith

whole_get : (xs : List Tree) (i : ℕ) (k : Tree) → i < length xs → k ≡ get_or xs i k → IsWholeForest (forest xs) → IsWholeForest (forest (k ∷ []))
whole_get [] i k n q w = absurd (omega (arith, n))
whole_get (x ∷ xs) zero k n q w = subst (λ y. IsWholeForest (forest (y ∷ []))) (sym q) (w.0, w.1, tt)
whole_get (x ∷ xs) (suc i) k n q w = whole_get xs i k (omega (arith, n)) q w.2

moved_through : (xs ys old new gone come : List Tree) → (IsWholeForest (forest xs) → IsWholeForest (forest old)) → Moved xs ys old new → Moved old new gone come → Moved xs ys gone come
moved_through xs ys old new gone come whole m w = grind arith

one_long : (h : Head) (xs : List Tree) → length (joined (forest (over h xs ∷ []))) ≡ length h.text + length (joined (forest xs))
one_long h xs = rw append-nil (length-append h.text (joined (forest xs)))

moved_over : (h : Head) (xs ys gone come : List Tree) → 0 < length xs → Moved xs ys gone come → Moved (over h xs ∷ []) (over h ys ∷ []) gone come
moved_over h xs ys gone come some m = grind (arith, one_long, some_nodes)

through_kid : (xs : List Tree) (i : ℕ) (k l x z : Tree) → i < length xs → k ≡ get_or xs i k → Moved (k ∷ []) (l ∷ []) (x ∷ []) (z ∷ []) → Moved xs (set xs i l) (x ∷ []) (z ∷ [])
through_kid xs i k l x z n q m = search (rules, moved_through, whole_get, set_moved)

-- what a tree comes to where the node at the end of a path was exchanged
pub moved_in : (path : List ℕ) (x z t u : Tree) → node_at path t ≡ Some x → put_at path z t ≡ Some u → Moved (t ∷ []) (u ∷ []) (x ∷ []) (z ∷ [])
moved_in [] x z t u e p = grind arith
moved_in (i ∷ path) x z t u e p =
    let s = step path i z t u p in
    let found = s.found in
    let got = got_at (kids_of t) i s.kid found in
    let on : node_at path s.kid ≡ Some x = rw found at e in
    let all = moved_over t.head (kids_of t) (set (kids_of t) i s.new) (x ∷ []) (z ∷ []) (omega (arith, got.0)) (through_kid (kids_of t) i s.kid s.new x z got.0 got.1 (moved_in path x z s.kid s.new on s.puts)) in
    subst (λ v. Moved (v ∷ []) (u ∷ []) (x ∷ []) (z ∷ [])) (with_own_kids t) (subst (λ v. Moved (over t.head (kids_of t) ∷ []) (v ∷ []) (x ∷ []) (z ∷ [])) (sym s.is) all)

-- what a row comes to where the node at the end of a path through it was exchanged
pub put_moved : (rest : List ℕ) (i : ℕ) (xs : List Tree) (k l x z : Tree) → i < length xs → k ≡ get_or xs i k → node_at rest k ≡ Some x → put_at rest z k ≡ Some l → Moved xs (set xs i l) (x ∷ []) (z ∷ [])
put_moved rest i xs k l x z n q e p = through_kid xs i k l x z n q (moved_in rest x z k l e p)

-- the node that stands there, put there again
pub put_same : (path : List ℕ) (x t : Tree) → node_at path t ≡ Some x → put_at path x t ≡ Some t
put_same [] x t e = sym e
put_same (i ∷ path) x t e = by_kid (slice_get (kids_of t) i) refl e (λ k f. put_same path x k f)
  where
    by_kid : (o : Option Tree) → slice_get (kids_of t) i ≡ o → option_and_then (node_at path) o ≡ Some x → ((k : Tree) → node_at path k ≡ Some x → put_at path x k ≡ Some k) → option_map (λ k. with_kids t (slice_set (kids_of t) i k)) (option_and_then (put_at path x) o) ≡ Some t
    by_kid None f e g = absurd (cc)
    by_kid (Some k) f e g =
        rw (g k e) (ap (λ u. Some u) (ap (with_kids t) (set_got (kids_of t) i k f) ∙ with_own_kids t))

one_text : (t : Tree) → length (joined (forest (t ∷ []))) ≡ length (text_of t)
one_text t = rw append-nil refl

-- a node that a path leads to is no larger than the tree
pub smaller : (path : List ℕ) (x t : Tree) → node_at path t ≡ Some x → (length (text_of x) ≤ length (text_of t)) × (nodes x ≤ nodes t)
smaller path x t e = grind (arith, moved_in path x x t t e (put_same path x t e), one_text)

-- what the tree comes to with another node there, against what it came to
pub changed_by : (path : List ℕ) (x z t u : Tree) → node_at path t ≡ Some x → put_at path z t ≡ Some u → (length (text_of u) + length (text_of x) ≡ length (text_of t) + length (text_of z)) × (nodes u + nodes x ≡ nodes t + nodes z)
changed_by path x z t u e p = grind (arith, moved_in path x z t u e p, one_text)

-- what was put there stands there
pub put_there : (path : List ℕ) (z t u : Tree) → put_at path z t ≡ Some u → node_at path u ≡ Some z
put_there [] z t u e = sym e
put_there (i ∷ path) z t u e =
    let s = step path i z t u e in
    let got = got_set (kids_of t) i s.kid s.new s.found in
    rw (s.is, trees_forest, got) (put_there path z s.kid s.new s.puts)

-- what was put there first makes no difference
pub put_again : (path : List ℕ) (y z t u : Tree) → put_at path z t ≡ Some u → put_at path y u ≡ put_at path y t
put_again [] y z t u e = refl
put_again (i ∷ path) y z t u e =
    let s = step path i z t u e in
    let got = got_set (kids_of t) i s.kid s.new s.found in
    let found = s.found in
    rw (s.is, trees_forest, got, found, put_again path y z s.kid s.new s.puts)
    (map_same (λ k. with_kids t (slice_set (slice_set (kids_of t) i s.new) i k)) (λ k. with_kids t (slice_set (kids_of t) i k)) (λ k. ap (with_kids t) (set_twice (kids_of t) i s.new k)) (put_at path y s.kid))

-- children replaced at the path's end, by what becomes of the node there
pub replaced_there : (path : List ℕ) (a b : ℕ) (ns : List Tree) (t x : Tree) → node_at path t ≡ Some x → replaced_at path a b ns t ≡ option_and_then (λ y. put_at path y t) (replaced a b ns x)
replaced_there [] a b ns t x e = grind arith
replaced_there (i ∷ path) a b ns t x e = by_kid (slice_get (kids_of t) i) e (λ k f. replaced_there path a b ns k x f)
  where
    by_kid : (o : Option Tree) → option_and_then (node_at path) o ≡ Some x → ((k : Tree) → node_at path k ≡ Some x → replaced_at path a b ns k ≡ option_and_then (λ y. put_at path y k) (replaced a b ns x)) → option_map (λ k. with_kids t (slice_set (kids_of t) i k)) (option_and_then (replaced_at path a b ns) o) ≡ option_and_then (λ y. option_map (λ k. with_kids t (slice_set (kids_of t) i k)) (option_and_then (put_at path y) o)) (replaced a b ns x)
    by_kid o e g = grind arith

-- the path leads to a node that has the children a..b
pub reaches_there : (path : List ℕ) (a b : ℕ) (t : Tree) → Reaches path a b t → At (Reaches [] a b) (node_at path t)
reaches_there [] a b t h = h
reaches_there (i ∷ path) a b t h = by_kid (slice_get (kids_of t) i) h (λ k r. reaches_there path a b k r)
  where
    by_kid : (o : Option Tree) → At (Reaches path a b) o → ((k : Tree) → Reaches path a b k → At (Reaches [] a b) (node_at path k)) → At (Reaches [] a b) (option_and_then (node_at path) o)
    by_kid o h g = grind arith

-- and back
pub reaches_from : (path : List ℕ) (a b : ℕ) (t : Tree) → At (Reaches [] a b) (node_at path t) → Reaches path a b t
reaches_from [] a b t h = h
reaches_from (i ∷ path) a b t h = by_kid (slice_get (kids_of t) i) h (λ k r. reaches_from path a b k r)
  where
    by_kid : (o : Option Tree) → At (Reaches [] a b) (option_and_then (node_at path) o) → ((k : Tree) → At (Reaches [] a b) (node_at path k) → Reaches path a b k) → At (Reaches path a b) o
    by_kid o h g = grind arith

-- one step of a walk along a path
pub walk_on : (path : List ℕ) (j : ℕ) (t k : Tree) (h : Head) (xs : List Tree) → j < length path → over h xs ≡ t → slice_get xs (get_or path j 0) ≡ Some k → node_at (drop j path) t ≡ node_at (drop (j + 1) path) k
walk_on path j t k h xs l e got = rw (drop_more path j 0 l, ← e, trees_forest, got) refl

pub walk_off : (path : List ℕ) (j : ℕ) (t : Tree) (h : Head) (xs : List Tree) → j < length path → over h xs ≡ t → length xs ≤ get_or path j 0 → node_at (drop j path) t ≡ None
walk_off path j t h xs l e past = rw (drop_more path j 0 l, ← e, trees_forest, slice_get_past xs (get_or path j 0) past) refl

-- what the children's replacement at the path's end comes to, where that node was taken out and is put back
pub replaced_back : (path : List ℕ) (a b : ℕ) (ns : List Tree) (t x y z s u : Tree) → node_at path t ≡ Some x → put_at path z t ≡ Some s → put_at path y s ≡ Some u → replaced a b ns x ≡ Some y → replaced_at path a b ns t ≡ Some u
replaced_back path a b ns t x y z s u e p q f =
    replaced_there path a b ns t x e ∙ (ap (option_and_then (λ v. put_at path v t)) f ∙ (sym (put_again path y z t s p) ∙ q))

pub refused_there : (path : List ℕ) (a b : ℕ) (ns : List Tree) (t x : Tree) → node_at path t ≡ Some x → replaced a b ns x ≡ None → replaced_at path a b ns t ≡ None
refused_there path a b ns t x e f = replaced_there path a b ns t x e ∙ ap (option_and_then (λ v. put_at path v t)) f

-- a node that was taken out and put back as it was
pub put_back : (path : List ℕ) (t x y z s u : Tree) → node_at path t ≡ Some x → put_at path z t ≡ Some s → put_at path y s ≡ Some u → y ≡ x → u ≡ t
put_back path t x y z s u e p q same = let whole : Some u ≡ Some t = sym q ∙ (put_again path y z t s p ∙ (ap (λ v. put_at path v t) same ∙ put_same path x t e)) in cc
