-- One replacement taken apart, and followed along its path.
use Rattle.typst_tree.proofs.Cited.{◌≡◌, ℕ, ◌+◌, List, ◌∷◌, ◌++◌, length, take, drop, Option, Some, None, arith, [], Stretch, Head, Tree, forest, count, kids_of, with_kids, swapped, exchanged, renumbered, fit, growth, stretch, replaced, replaced_at, At, Reaches, Along, AtPath, option_map, option_and_then, slice_get, slice_set, slice_range}

-- what the node with children kids is, whose children from..to were replaced
pub record Inside (t u : Tree) (from to : ℕ) (new : List Tree) : Type 0 where
  pub file : ℕ
  pub kids : List Tree
  pub swaps : swapped file t.head (kids_of t) from to (slice_range (kids_of t) from to) new ≡ Some kids
  pub is : with_kids t kids ≡ u

pub inside : (t u : Tree) (from to : ℕ) (new : List Tree) → replaced from to new t ≡ Some u → Inside t u from to new
inside t u from to new e = grind arith

-- a stretch that fits, by how many children it grew
pub record Grown (h : Head) (xs : List Tree) (from to n : ℕ) (w : Stretch) : Type 0 where
  pub by : ℕ
  pub grows : growth h xs from to n (length xs + 1) 0 ≡ Some by
  pub is : stretch h xs from to n by ≡ w

pub grown : (h : Head) (xs : List Tree) (from to n : ℕ) (w : Stretch) → fit h xs from to n ≡ Some w → Grown h xs from to n w
grown h xs from to n w e = grind arith

-- children that were exchanged for some new ones
pub record Exchanged (file : ℕ) (h : Head) (xs : List Tree) (from to : ℕ) (ns ys : List Tree) : Type 0 where
  pub window : Stretch
  pub fits : fit h xs from to (count (forest ns)) ≡ Some window
  pub is : renumbered file xs from to ns window ≡ ys

pub exchange_some : (file : ℕ) (h : Head) (xs : List Tree) (from to : ℕ) (n : Tree) (ns ys : List Tree) → exchanged file h xs from to (n ∷ ns) ≡ Some ys → Exchanged file h xs from to (n ∷ ns) ys
exchange_some file h xs from to n ns ys e = grind arith

pub exchange_none : (file : ℕ) (h : Head) (xs : List Tree) (from to : ℕ) (ys : List Tree) → exchanged file h xs from to [] ≡ Some ys → take from xs ++ drop to xs ≡ ys
exchange_none file h xs from to ys e = cc

-- the step down to child i
pub record Below (path : List ℕ) (i from to : ℕ) (new : List Tree) (t u : Tree) : Type 0 where
  pub kid : Tree
  pub kid' : Tree
  pub found : slice_get (kids_of t) i ≡ Some kid
  pub reaches : Reaches path from to kid
  pub replaces : replaced_at path from to new kid ≡ Some kid'
  pub is : u ≡ with_kids t (slice_set (kids_of t) i kid')

pub below : (path : List ℕ) (i from to : ℕ) (new : List Tree) (t u : Tree) → Reaches (i ∷ path) from to t → replaced_at (i ∷ path) from to new t ≡ Some u → Below path i from to new t u
below path i from to new t u r e = grind arith

-- what holds of each node that is replaced holds along the path
pub along : (R : Tree → Tree → Type 0) (from to : ℕ) (new : List Tree) → ((t u : Tree) → Reaches [] from to t → replaced from to new t ≡ Some u → R t u) → (path : List ℕ) (t u : Tree) → Reaches path from to t → replaced_at path from to new t ≡ Some u → Along R path t u
along R from to new here [] t u r e = here t u r e
along R from to new here (i ∷ path) t u r e =
    let b = below path i from to new t u r e in (b.kid, b.kid', b.found, b.is, along R from to new here path b.kid b.kid' b.reaches b.replaces)

-- what holds of each node whose replacement is refused holds along the path
pub refused_along : (P : Tree → Type 0) (from to : ℕ) (new : List Tree) → ((t : Tree) → Reaches [] from to t → replaced from to new t ≡ None → P t) → (path : List ℕ) (t : Tree) → Reaches path from to t → replaced_at path from to new t ≡ None → AtPath P path t
refused_along P from to new here [] t r e = here t r e
refused_along P from to new here (i ∷ path) t r e = by_kid (slice_get (kids_of t) i) r e (λ k r s. refused_along P from to new here path k r s)
  where
    by_kid : (o : Option Tree) → At (Reaches path from to) o → option_map (λ l. with_kids t (slice_set (kids_of t) i l)) (option_and_then (replaced_at path from to new) o) ≡ None → ((k : Tree) → Reaches path from to k → replaced_at path from to new k ≡ None → AtPath P path k) → At (AtPath P path) o
    by_kid o r e f = grind arith
