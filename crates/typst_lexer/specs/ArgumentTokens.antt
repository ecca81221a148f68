-- What is looked for where an argument of a call begins.
use Rattle.std.specs.Prelude.{ℕ, Bool, ◌||◌, ◌&&◌, if◌then◌else◌, ◌==◌, List, [], ◌∷◌, length, Some, None, codes}
use Rattle.std.specs.Char.{is_whitespace}
use Rattle.typst_lines.specs.Classes.{CharClasses}
use Rattle.typst_lines.specs.Identifiers.{is_id_start, is_id_continue}
use Rattle.typst_kinds.specs.declared.kind.SyntaxKind.TheVariants as kind
use Rattle.typst_lines.specs.Place.{passes}
use Rattle.typst_lexer.specs.Shorthands.{any_word}
use Rattle.typst_tokens.specs.Reader.{Reader, at_word}
use Rattle.typst_tokens.specs.Reader.Reader.{answer, peek, eat, skip, eat_run}
use Rattle.typst_tokens.specs.Memory.{Memory}
use Rattle.typst_tokens.specs.Token.{plain}
use Rattle.typst_tokens.specs.declared.token.Token.{Token}

-- The answer where no such argument begins; how far was read then means nothing.
abbrev pub nothing : Reader Memory Token
nothing = answer (plain kind.End)

-- The token of a name of these characters; a lone underscore isn't a name.
abbrev pub name_token : ℕ → List ℕ → Token
name_token c rest = plain (if c == 95 && length rest == 0 then kind.Underscore else kind.Ident)

-- The token, if a colon comes next that begins neither `:=` nor `::=`.
unfoldable pub before_colon : Token → Reader Memory Token
before_colon t = any_word kind.End (codes ":=" ∷ codes "::=" ∷ []) (peek 0 (λ c. if passes (λ c. c == 58) c then answer t else nothing))

-- The name of a named argument: an identifier directly before a colon that begins no shorthand.
unfoldable pub named_argument : CharClasses → Reader Memory Token
named_argument k = peek 0 (λ c. elim c [
  | None ↦ nothing
  | Some c ↦ if is_id_start k c then eat (eat_run (is_id_continue k) (λ rest. before_colon (name_token c rest))) else nothing
])

-- White space, another dot, and what ends an argument: dots before these spread nothing.
abbrev pub ends_spread : ℕ → Bool
ends_spread c = is_whitespace c || c == 46 || c == 44 || c == 59 || c == 41 || c == 36

-- The dots, if something comes next that can be spread: neither the end nor a comment.
unfoldable pub before_spread : Reader Memory Token
before_spread = peek 0 (λ c. elim c [
  | None ↦ nothing
  | Some c ↦
      if ends_spread c then nothing
      else (if c == 47 then peek 1 (λ d. if passes (λ d. d == 47 || d == 42) d then nothing else answer (plain kind.Dots))
      else answer (plain kind.Dots))
])

-- The dots of an argument that is spread: two, directly before something else.
unfoldable pub spread_argument : Reader Memory Token
spread_argument = at_word 0 (codes "..") (skip 2 before_spread) nothing
