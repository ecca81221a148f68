-- What closes a delimiter.
use Rattle.std.specs.Prelude.{ℕ, List, codes, Option, None, Some, if◌then◌else◌}
use Rattle.std.specs.Str.{bytes_eq}

-- a bracket is closed by its counterpart, and a delimiter of formulas, strong text and emphasis by itself
abbrev pub closer_of : List ℕ → Option (List ℕ)
closer_of opener =
    if bytes_eq opener (codes "(") then Some (codes ")")
    else (if bytes_eq opener (codes "[") then Some (codes "]")
    else (if bytes_eq opener (codes "{") then Some (codes "}")
    else (if bytes_eq opener (codes "$") then Some (codes "$")
    else (if bytes_eq opener (codes "*") then Some (codes "*")
    else (if bytes_eq opener (codes "_") then Some (codes "_")
    else None)))))
