-- Numbers in order, and searches for a number.
use Rattle.std.specs.Prelude.{◌≡◌, ℕ, ◌+◌, ◌<◌, length, drop, false, nat_lt, Bool, true, IsTrue, List, Option, option_map, slice_get}
use Rattle.std.specs.Option.{option_or}
use Rattle.typst_kinds.specs.Span.{number_of}
use Rattle.typst_tree.specs.Tree.{Forest, none, more, Tree, forest}

-- the number of the tree of the index i in a row, or else the end
abbrev pub number_at : List Tree → ℕ → Option ℕ → Option ℕ
number_at row i end = option_or (option_map (λ t. number_of t.head.span) (slice_get row i)) end

-- there is no tree, or the first has a number above m
abbrev pub begins_past : ℕ → Forest → Bool
begins_past m none = true
begins_past m (more h ks r) = nat_lt m (number_of h.span)

-- only nodes with the number m pass the test
abbrev pub IsKey : (ℕ → ℕ → Tree → Bool) → ℕ → Type 0
IsKey p m = (n a : ℕ) (t : Tree) → IsTrue (p n a t) → number_of t.head.span ≡ m

-- the tree of the index i begins at the key or before it, or is the first, and the next begins past
-- it (for private clauses)
pub record IsLastUpTo (m : ℕ) (row : List Tree) (i : ℕ) : Type 0 where
  pub within : i < length row
  pub begins : 0 < i → begins_past m (forest (drop i row)) ≡ false
  pub next : begins_past m (forest (drop (i + 1) row)) ≡ true
