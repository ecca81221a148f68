use Rattle.std.proofs.Common.{arith}
use Rattle.typst_server.proofs.Held.{unknown-in-all, unknown-more}
use Rattle.typst_server.proofs.documents.Documents.knows_any.Goals as goal

pub loop-entry-preserved : goal.loop-entry-preserved
loop-entry-preserved c = grind (arith, unknown-more)

pub returns : goal.returns
returns c = grind (arith, unknown-in-all)
