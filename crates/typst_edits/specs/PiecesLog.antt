-- What is logged of pieces that are read again from their first token.
use Rattle.std.specs.Prelude.{◌≡◌, ℕ, ◌<◌, List, ◌++◌, Some}
use Rattle.typst_lines.specs.Place.{Place, moved}
use Rattle.typst_lines.specs.Classes.{CharClasses}
use Rattle.typst_language.specs.Ask.{Ask}
use Rattle.typst_language.specs.Log.{no_log, logged}
use Rattle.typst_language.specs.Meaning.{start_point, run}
use Rattle.typst_language.specs.Point.{Trivia}
use Rattle.typst_language.specs.Steps.{peek}
use Rattle.typst_grammar.specs.Markup.{markup_reading}
use Rattle.typst_edits.specs.Frame.{Run, read_as}
use Rattle.typst_edits.specs.Heads.{first_place}
use Rattle.typst_edits.specs.OneReading.{TakesNone}
use Rattle.typst_edits.specs.Resumed.{read_again}
use Rattle.typst_edits.specs.RunSplice.{levels_of, pieces_log}
use Rattle.typst_edits.specs.Sequence.{Sequence, AllGo, asks_of, first_of, first_end, then_of}

-- what is asked where m pieces are read again from after these trivia, as a run is from its start
abbrev pub asks_again : ℕ → ℕ → Trivia → Sequence → List Ask
asks_again i m t r = (run r.level peek (moved t.gap (first_place i r)) (start_point markup_reading)).asks ++ asks_of (read_again i m t r)

-- The law of a pieces' log: where an expression that takes back errors has none before it, the same is logged of pieces that are read again from their first token.
abbrev pub PiecesLogLaw : Type 0
PiecesLogLaw = (k : CharClasses) (text : List ℕ) (r : Run k text) (z : Place) (i m : ℕ) (t : Trivia) → (let q = read_as r z in
    0 < i → AllGo (first_of i q) → AllGo (then_of i m q) → (first_end i q).state.known ≡ Some t → TakesNone i q
    → pieces_log r i m z ≡ logged (levels_of r) (moved t.gap (first_place i q)) no_log (asks_again i m t q))
