use Rattle.typst_candidates.proofs.Cited.{drop, AllFit}
use Rattle.typst_candidates.proofs.records.fit.Given as goal

abbrev pub invariant-loop-note : goal.invariant-loop-note
invariant-loop-note l = AllFit (drop l.note-index l.notes) → AllFit l.notes
