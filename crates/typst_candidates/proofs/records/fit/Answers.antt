use Rattle.typst_candidates.proofs.Walks.{not-fit}
use Rattle.typst_candidates.proofs.records.fit.Goals as goal

pub returns-then-note : goal.returns-then-note
returns-then-note c = (λ h. absurd (cc), λ h. absurd (not-fit c.loop-note.note-index c.args.notes.now _ h c.loop-note-test.true c.if-note.true))
