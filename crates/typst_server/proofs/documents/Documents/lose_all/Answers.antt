use Rattle.typst_server.proofs.Cited.{arith, with_items_is}
use Rattle.typst_server.proofs.Held.{lost-in, lost-more, lost-sent-in, lost-whole}
use Rattle.typst_server.proofs.documents.Documents.lose_all.Goals as goal

pub loop-entry-preserved : goal.loop-entry-preserved
loop-entry-preserved c = grind (arith, lost-more)

pub returns-clause-lost : goal.returns-clause-lost
returns-clause-lost c = grind (arith, lost-in, with_items_is, lost-whole)

pub returns-clause-sent : goal.returns-clause-sent
returns-clause-sent c = grind (arith, lost-sent-in, with_items_is, lost-whole)
