-- An edit of a list of numbers.
use Rattle.std.specs.Prelude.{◌≡◌, ◌≢◌, ℕ, ◌+◌, ◌≤◌, List, ◌++◌, length, take, drop, slice_range, slice_get}
use Rattle.typst_styles.specs.declared.delta.DataEdit.{DataEdit}

-- the edit leaves what both lists have in common at the front and at the end, and makes the new list of the old one
pub record Makes (old new : List ℕ) (e : DataEdit) : Type 0 where
  pub within : e.start + e.removed ≤ length old
  pub new_start : e.inserted.start ≡ e.start
  pub new_ordered : e.inserted.start ≤ e.inserted.end
  pub new_within : e.inserted.end ≤ length new
  pub made : new ≡ take e.start old ++ (slice_range new e.inserted.start e.inserted.end ++ drop (e.start + e.removed) old)
  pub front : slice_get old e.start ≢ slice_get new e.start
