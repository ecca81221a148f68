-- What is replaced where a text becomes another one.
use Rattle.std.specs.Prelude.{◌≡◌, ℕ, ◌-◌, ◌≤◌, List, ◌++◌, length, take, drop, slice_range}
use Rattle.std.specs.Str.{IsCharBoundary}

-- with so many bytes set aside at the front and at the end of both texts, the old text with its
-- middle replaced by the middle of the new one is the new one
pub record Replaces (old new : List ℕ) (ends : ℕ × ℕ) : Type 0 where
  pub start : IsCharBoundary old ends.0
  pub end : IsCharBoundary old (length old - ends.1)
  pub ordered : ends.0 ≤ length old - ends.1
  pub new_start : IsCharBoundary new ends.0
  pub new_end : IsCharBoundary new (length new - ends.1)
  pub new_ordered : ends.0 ≤ length new - ends.1
  pub made : new ≡ take ends.0 old ++ slice_range new ends.0 (length new - ends.1) ++ drop (length old - ends.1) old
