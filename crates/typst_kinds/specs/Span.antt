-- What contracts see of numbers, spans and ranges.
use Rattle.std.specs.Prelude.{◌≡◌, ℕ, ◌+◌, ◌*◌, ◌/◌, ◌%◌, ◌^◌, ◌<◌, ◌≤◌, ◌==◌, Option, None, Some, if◌then◌else◌}
use Rattle.std.proofs.Common.{arith}
use Rattle.std.proofs.lemmas.Nat.{div-add-mod'}

-- a file has one of the numbers 1 to 65535
abbrev pub IsFile : ℕ → Type 0
IsFile n = (1 ≤ n) × (n ≤ 65535)

-- the numbers of nodes go from 2 to 2 ^ 47 - 1
abbrev pub IsSpanNumber : ℕ → Type 0
IsSpanNumber n = (2 ≤ n) × (n < 2 ^ 47)

-- a range of bytes within a node
pub record Bytes : Type 0 where
  pub start : ℕ
  pub end : ℕ

-- what contracts see of a span: a file and a node's number in it, or neither
abbrev pub SpanValue : Type 0
SpanValue = Option (ℕ × ℕ)

-- the node's number, or 0 where the span is detached
abbrev pub number_of : SpanValue → ℕ
number_of None = 0
number_of (Some p) = p.1

-- a span as one number: the file's number above 48 bits for the node's number, and 0 for a detached
-- span
abbrev pub packed : SpanValue → ℕ
packed None = 0
packed (Some p) = p.0 * 2 ^ 48 + p.1

-- the span that a number holds
abbrev pub unpacked : ℕ → SpanValue
unpacked n = if n == 0 then None else Some (n / 2 ^ 48, n % 2 ^ 48)

-- a number that holds a span: 0, or a file's number and a node's
abbrev pub IsPacked : ℕ → Type 0
IsPacked n = (n < 2 ^ 64) × (0 < n → IsFile (n / 2 ^ 48) × IsSpanNumber (n % 2 ^ 48))

-- unpacking loses nothing
pub packed-unpacked : (n : ℕ) → packed (unpacked n) ≡ n
packed-unpacked n = grind (arith, div-add-mod' n (2 ^ 48))
