use Rattle.typst_server.proofs.Cited.{arith, nat_tests}
use Rattle.typst_server.proofs.Occurring.{labels_stand}
use Rattle.typst_server.proofs.naming.occurrences_at.Goals as goal

pub returns : goal.returns
returns c = grind (arith, nat_tests, labels_stand)
