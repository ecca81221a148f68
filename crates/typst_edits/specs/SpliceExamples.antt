-- Units of short texts before an edit at their start and after it, as it follows from the definitions.
use Rattle.std.specs.Prelude.{◌≡◌, ℕ, true, false, List, [], ◌∷◌, codes, map}
use Rattle.typst_candidates.specs.Entries.{units_of, spliced}
use Rattle.typst_candidates.specs.declared.entry.Entry.{Entry}
use Rattle.typst_lines.specs.Classes.{CharClasses, by_law}
use Rattle.typst_language.specs.Point.{Trivia}
use Rattle.typst_grammar.specs.Examples.{space}
use Rattle.typst_grammar.specs.Grammar.{start_of, log}
use Rattle.typst_edits.specs.Frame.{top}
use Rattle.typst_edits.specs.Joins.{PassesJoint}
use Rattle.typst_edits.specs.RunPieces.{root_run}
use Rattle.typst_edits.specs.RunSplice.{pieces_log}
use Rattle.typst_edits.specs.Splice.{entries_from}
use Rattle.typst_edits.specs.TextReplacement.{replacing}

-- one newline
abbrev pub newline : Trivia
newline = record { nodes = space (codes "\n") ∷ []; gap = 1; newlines = record { any = true; parbreak = false } }

-- how far each note stands after the token of the one before it
abbrev pub steps : CharClasses → List ℕ → List ℕ
steps k s = map (λ (e : Entry). e.step) (units_of (log k s)).entries

-- what is computed
pub record Splices (beyond : CharClasses) : Type 0 where
  -- the `a` goes from a line of its own at the text's start: no piece is read in its place, and the `b` after it stays
  pub start_passes : PassesJoint (by_law beyond) (replacing [] (codes "a") [] (codes "\nb")) top 0 1 0 1 newline newline
  -- but the end of `b` is noted by where the run begins, and not by where `b` does
  pub start_old : steps (by_law beyond) (codes "a\nb") ≡ 0 ∷ 1 ∷ 1 ∷ []
  pub start_new : steps (by_law beyond) (codes "\nb") ≡ 0 ∷ 2 ∷ []
  -- where nothing is after it, its entry goes
  pub end_old : units_of (log (by_law beyond) (codes "\n")) ≡ spliced 0 1 [] (units_of (log (by_law beyond) (codes "a\n")))
  -- and comes where it is put in
  pub end_new : units_of (log (by_law beyond) (codes "a\n")) ≡ spliced 0 0 (entries_from 0 (pieces_log (root_run (by_law beyond) (codes "a\n")) 0 1 (start_of (codes "a\n"))).notes) (units_of (log (by_law beyond) (codes "\n")))
