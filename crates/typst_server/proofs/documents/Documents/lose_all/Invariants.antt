use Rattle.std.proofs.Common.{take}
use Rattle.typst_server.proofs.Held.{AreLost}
use Rattle.typst_server.proofs.documents.Documents.lose_all.Given as goal

abbrev pub invariant-loop-entry : goal.invariant-loop-entry
invariant-loop-entry l = AreLost (take l.entry-index l.entry-items)
