-- The names of characters that don't show.
use Rattle.std.specs.Prelude.{ℕ, List, codes, Option, None, Some, if◌then◌else◌}
use Rattle.std.specs.Str.{bytes_eq}

-- the character that has a name of its own
abbrev pub character_named : List ℕ → Option ℕ
character_named name =
    if bytes_eq name (codes "LF") then Some 10 else (if bytes_eq name (codes "CR") then Some 13 else (if bytes_eq name (codes "TAB") then Some 9 else (if bytes_eq name (codes "SP") then Some 32 else (if bytes_eq name (codes "NUL") then Some 0 else None))))
