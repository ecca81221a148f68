use Rattle.std.proofs.Common.{take}
use Rattle.typst_server.proofs.Held.{AreUnknownAll}
use Rattle.typst_server.proofs.documents.Documents.knows_any.Given as goal

abbrev pub invariant-loop-entry : goal.invariant-loop-entry
invariant-loop-entry l = AreUnknownAll (take l.entry-index l.entry-items)
