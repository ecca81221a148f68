-- What `expected` and `unexpected` say.
use Rattle.std.specs.Prelude.{ℕ, Bool, ◌||◌, ◌&&◌, List, ◌++◌, codes}
use Rattle.std.specs.Str.{bytes_eq}
use Rattle.typst_kinds.specs.Kinds.{is_keyword}
use Rattle.typst_kinds.specs.declared.kind.SyntaxKind.{SyntaxKind}

-- `expected THING, found NAME`: what was expected, and the name of the kind that was found
abbrev pub expected_message : List ℕ → List ℕ → List ℕ
expected_message thing name = codes "expected " ++ (thing ++ (codes ", found " ++ name))

-- `unexpected NAME`: the name of the kind that was found
abbrev pub unexpected_message : List ℕ → List ℕ
unexpected_message name = codes "unexpected " ++ name

-- the hint for a keyword that was found where a name was expected
abbrev pub keyword_hint : List ℕ → List ℕ
keyword_hint k = codes "keyword `" ++ (k ++ (codes "` is not allowed as an identifier; try `" ++ (k ++ codes "_` instead")))

-- whether what was expected is called an identifier or a pattern
abbrev pub is_name_word : List ℕ → Bool
is_name_word thing = bytes_eq thing (codes "identifier") || bytes_eq thing (codes "pattern")

-- a keyword was found where an identifier or a pattern was expected
abbrev pub is_lost_name : SyntaxKind → List ℕ → Bool
is_lost_name k thing = is_keyword k && is_name_word thing
