-- Blocks begin apart from each other.
use Rattle.std.specs.Prelude.{◌≡◌, ℕ, ◌<◌, List, ◌∷◌, ◌++◌}
use Rattle.typst_lines.specs.Classes.{CharClasses}
use Rattle.typst_language.specs.declared.calls.Block.{Block}
use Rattle.typst_language.specs.declared.calls.Mark.TheVariants as mark
use Rattle.typst_language.specs.declared.calls.Note.{Note}
use Rattle.typst_grammar.specs.Grammar.{log}
use Rattle.typst_edits.specs.PieceNotes.{listed}

-- The law of openings: of two notes of a text's log at which blocks begin the later one's token begins at a later byte.
abbrev pub OpensApartLaw : Type 0
OpensApartLaw = (k : CharClasses) (text : List ℕ) (earlier between later : List Note) (n o : Note) (a b : Block) → listed (log k text).notes ≡ earlier ++ n ∷ (between ++ o ∷ later)
    → n.mark ≡ mark.Opens a → o.mark ≡ mark.Opens b → n.start < o.start
