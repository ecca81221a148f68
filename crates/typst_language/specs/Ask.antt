-- What a parser asked of the text, in the order of asking.
use Rattle.std.specs.Prelude.{ℕ, suc, ◌+◌, List, [], ◌∷◌, map}
use Rattle.typst_lines.specs.Place.{Place, moved}
use Rattle.typst_tokens.specs.Reader.{Look, Agree}
use Rattle.typst_language.specs.declared.reading.State.{State}
use Rattle.typst_language.specs.declared.calls.Mark.{Mark}

-- Places are counted in characters from where the parser began, and levels by how many fewer are left than there.
pub data Ask : Type 0 where
  -- a stretch around the place a given number of characters further on was looked at
  looked : ℕ → Look → Ask
  -- a unit begins or ends a given number of characters further on, after a given number of characters of trivia, where so many
  -- levels fewer are left, in a state
  marked : ℕ → ℕ → ℕ → Mark → State → Ask

-- two places show the same where this was asked
abbrev pub SameOne : Ask → Place → Place → Type 0
SameOne (looked at look) z w = Agree look (moved at z) (moved at w)
SameOne (marked at gap fewer mark s) z w = Unit {0}

-- two places show the same wherever something was asked
abbrev pub SameIn : List Ask → Place → Place → Type 0
SameIn [] z w = Unit {0}
SameIn (ask ∷ asks) z w = SameOne ask z w × SameIn asks z w

-- an ask, counted from n characters before
abbrev pub shift_one : ℕ → Ask → Ask
shift_one n (looked at look) = looked (n + at) look
shift_one n (marked at gap fewer mark s) = marked (n + at) gap fewer mark s

-- asks, counted from n characters before
abbrev pub shift : ℕ → List Ask → List Ask
shift n = map (shift_one n)

-- an ask, counted from where one level more is left
abbrev pub sink_one : Ask → Ask
sink_one (looked at look) = looked at look
sink_one (marked at gap fewer mark s) = marked at gap (suc fewer) mark s

-- asks, counted from where one level more is left
abbrev pub sunk : List Ask → List Ask
sunk = map sink_one

-- the looks alone: what is read and given up notes no unit
abbrev pub only_looks : List Ask → List Ask
only_looks [] = []
only_looks (looked at look ∷ asks) = looked at look ∷ only_looks asks
only_looks (marked at gap fewer mark s ∷ asks) = only_looks asks
