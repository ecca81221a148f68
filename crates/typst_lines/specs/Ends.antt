-- Characters without some at their end.
use Rattle.std.specs.Prelude.{ℕ, Bool, List, drop, reverse}
use Rattle.std.specs.List.{prefix_len}

-- Characters without the longest run of those that pass at their end.
abbrev pub without_last : (ℕ → Bool) → List ℕ → List ℕ
without_last test cs = let back = reverse cs in reverse (drop (prefix_len test back) back)
