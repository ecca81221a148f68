-- Strings.
use Rattle.std.specs.Prelude.{ℕ, Bool, true, false, if◌then◌else◌, ◌==◌}
use Rattle.typst_kinds.specs.declared.kind.SyntaxKind.TheVariants as kind
use Rattle.typst_tokens.specs.Reader.{Reader, Machine, Turn, by_character, eat_span}
use Rattle.typst_tokens.specs.Reader.Reader.{answer, eat}
use Rattle.typst_tokens.specs.Reader.Turn.{leave, last, go}
use Rattle.typst_tokens.specs.Memory.{Memory}
use Rattle.typst_tokens.specs.Memory.Memory.{blank, quoted}
use Rattle.typst_tokens.specs.Token.{plain, faulty}
use Rattle.typst_tokens.specs.declared.token.Fault.TheVariants as fault
use Rattle.typst_tokens.specs.declared.token.Token.{Token}

-- A backslash takes the next character with it, and a quotation mark ends the string.
abbrev pub string_turn : Bool → ℕ → Turn Memory
string_turn true c = go (quoted false)
string_turn false c = if c == 34 then last blank else go (quoted (c == 92))

-- A step through a string.
abbrev pub string_step : Memory → ℕ → Turn Memory
string_step (quoted escaped) c = string_turn escaped c
string_step _ c = leave

-- The machine that takes a string from after its first quotation mark on.
abbrev pub in_string : Machine Memory
in_string = by_character string_step

-- The token of a string: it is closed if its second quotation mark came.
abbrev pub string_end : Memory → Token
string_end blank = plain kind.Str
string_end _ = faulty fault.UnclosedString

-- A quotation mark comes next, and begins a string, which goes on to another one, or to the end.
unfoldable pub string : Reader Memory Token
string = eat (eat_span in_string (quoted false) (λ memory. answer (string_end memory)))
