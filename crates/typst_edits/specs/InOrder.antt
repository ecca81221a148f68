-- The order of a text's notes by their tokens.
use Rattle.std.specs.Prelude.{ℕ, List}
use Rattle.typst_lines.specs.Classes.{CharClasses}
use Rattle.typst_candidates.specs.Records.{IsRising}
use Rattle.typst_grammar.specs.Grammar.{log}
use Rattle.typst_edits.specs.PieceNotes.{listed}

-- The law of the order of tokens: each note of a text stands where the token of the note before it begins, or after that, and its own token begins there or later.
abbrev pub InOrderLaw : Type 0
InOrderLaw = (k : CharClasses) (text : List ℕ) → IsRising 0 (listed (log k text).notes)
