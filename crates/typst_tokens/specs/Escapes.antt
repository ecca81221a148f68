-- Escapes.
use Rattle.std.specs.Prelude.{ℕ, not, if◌then◌else◌, ◌==◌, List, codes}
use Rattle.std.specs.Char.{is_ascii_alphanumeric, is_whitespace}
use Rattle.typst_kinds.specs.declared.kind.SyntaxKind.TheVariants as kind
use Rattle.typst_lines.specs.Place.{passes}
use Rattle.typst_tokens.specs.Reader.{Reader, if_next, at_word}
use Rattle.typst_tokens.specs.Reader.Reader.{answer, peek, eat, skip, eat_run}
use Rattle.typst_tokens.specs.Characters.{is_code_point}
use Rattle.typst_tokens.specs.Token.{plain, faulty}
use Rattle.typst_tokens.specs.declared.token.Token.{Token}
use Rattle.typst_tokens.specs.declared.token.Fault.TheVariants as fault
use Rattle.typst_tokens.specs.Memory.{Memory}

-- After `\u{` and its letters and digits: `}` has to end the escape, and they have to name a
-- character.
unfoldable pub code_point : List ℕ → Reader Memory Token
code_point digits = if_next (λ c. c == 125) (answer (if is_code_point digits then plain kind.Escape else faulty fault.InvalidEscape)) (answer (faulty fault.UnclosedEscape))

-- A backslash comes next: an escape by a code point, an escaped character, or a line break before
-- whitespace and the end.
unfoldable pub backslash : Reader Memory Token
backslash = eat (at_word 0 (codes "u{")
    (skip 2 (eat_run is_ascii_alphanumeric code_point))
    (peek 0 (λ c. if passes (λ c. not (is_whitespace c)) c then eat (answer (plain kind.Escape)) else answer (plain kind.Linebreak))))
