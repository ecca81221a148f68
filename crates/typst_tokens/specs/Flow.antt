-- What flows on in a plain text whatever is before it, by the character that follows.
use Rattle.std.specs.Prelude.{ℕ, Bool, not, ◌||◌, ◌&&◌, ◌==◌, Option}
use Rattle.std.specs.Char.{is_ascii_alphanumeric}
use Rattle.typst_lines.specs.Place.{passes}
use Rattle.typst_tokens.specs.Text.{may_stop}

-- A space before a letter or a number; an `h` that begins neither `http` nor `https`, since no `t`
-- follows. The first set holds the letters and numbers.
abbrev pub flows : (ℕ → Bool) → ℕ → Option ℕ → Bool
flows is_alphanumeric c next = (c == 32 && passes is_alphanumeric next) || (c == 104 && not (passes (λ d. d == 116) next))

-- What is text in any case or flows on, where ASCII follows, whose letters and numbers are fixed.
abbrev pub flows_in_ascii : ℕ → Option ℕ → Bool
flows_in_ascii c next = not (may_stop c) || flows is_ascii_alphanumeric c next
