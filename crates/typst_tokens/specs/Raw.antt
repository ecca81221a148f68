-- How far a raw text goes.
use Rattle.std.specs.Prelude.{ℕ, ◌+◌, if◌then◌else◌, ◌==◌, length}
use Rattle.typst_kinds.specs.declared.kind.SyntaxKind.TheVariants as kind
use Rattle.typst_tokens.specs.Token.{plain, faulty}
use Rattle.typst_tokens.specs.declared.token.Token.{Token}
use Rattle.typst_tokens.specs.declared.token.Fault.TheVariants as fault
use Rattle.typst_tokens.specs.Reader.{Reader, Machine, Turn, by_character, eat_span}
use Rattle.typst_tokens.specs.Reader.Reader.{answer, eat_run}
use Rattle.typst_tokens.specs.Reader.Turn.{leave, last, go}
use Rattle.typst_tokens.specs.Memory.Memory.{blank, fence}
use Rattle.typst_tokens.specs.Memory.{Memory}

-- The first place where as many backticks as wanted were passed in a row ends the text.
abbrev pub fence_turn : ℕ → ℕ → ℕ → Turn Memory
fence_turn wanted found c =
    if c == 96 then (if found + 1 == wanted then last blank else go (fence wanted (found + 1))) else go (fence wanted 0)

-- A step through a raw text.
abbrev pub fence_step : Memory → ℕ → Turn Memory
fence_step (fence wanted found) c = fence_turn wanted found c
fence_step _ c = leave

-- The machine that takes a raw text from after its first backticks on.
abbrev pub in_raw : Machine Memory
in_raw = by_character fence_step

-- The token of a raw text: it is closed if no backticks are wanted any more.
abbrev pub raw_end : Memory → Token
raw_end blank = plain kind.Raw
raw_end _ = faulty fault.UnclosedRaw

-- A backtick comes next: exactly two in a row are a raw text, and others begin one, which goes on to
-- as many in a row, or to the end.
unfoldable pub raw : Reader Memory Token
raw = eat_run (λ c. c == 96) (λ ticks.
    if length ticks == 2 then answer (plain kind.Raw)
    else eat_span in_raw (fence (length ticks) 0) (λ memory. answer (raw_end memory)))
