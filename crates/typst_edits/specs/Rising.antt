-- The order of a text's notes.
use Rattle.std.specs.Prelude.{ℕ, ◌≤◌, List, [], ◌∷◌}
use Rattle.typst_lines.specs.Classes.{CharClasses}
use Rattle.typst_tokens.specs.Sight.{width}
use Rattle.typst_language.specs.declared.calls.Note.{Note}
use Rattle.typst_grammar.specs.Grammar.{log}
use Rattle.typst_edits.specs.PieceNotes.{listed}

-- Each of several notes stands where the note before it does, or later, and the first at a byte or later; its token begins there or later, and both by an end.
abbrev pub Rising : ℕ → ℕ → List Note → Type 0
Rising from end [] = from ≤ end
Rising from end (n ∷ ns) = (from ≤ n.before) × (n.before ≤ n.start) × (n.start ≤ end) × Rising n.before end ns

-- The law of the order of notes: none begins before the one before it, and they lie within the text.
abbrev pub RisingLaw : Type 0
RisingLaw = (k : CharClasses) (text : List ℕ) → Rising 0 (width text) (listed (log k text).notes)
