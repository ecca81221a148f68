-- When two addresses name the same document.
use Rattle.std.specs.Prelude.{ℕ, List, Bool}
use Rattle.std.specs.Str.{bytes_eq}
use Rattle.percent_encoding.specs.Percent.{percent_decode}

-- addresses are compared decoded: an escape, `%` and two hexadecimal digits, is its byte, and any other `%` stands for itself
abbrev pub is_same : List ℕ → List ℕ → Bool
is_same a b = bytes_eq (percent_decode a) (percent_decode b)
