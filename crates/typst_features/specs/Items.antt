-- The numbers of an enumeration.
use Rattle.std.specs.Prelude.{ℕ, ◌+◌, ◌^◌, nat_lt, Option, None, Some, if◌then◌else◌}

-- the number after another one is higher by one, if it is below 2^64
abbrev pub next_number : ℕ → Option ℕ
next_number n = if nat_lt (n + 1) (2 ^ 64) then Some (n + 1) else None
