use Rattle.std.proofs.Common.{arith}
use Rattle.typst_lexer.proofs.Clusters.{is-cluster, line-is}
use Rattle.typst_lexer.proofs.math_names.is_cluster.Goals as goal

pub returns : goal.returns
returns g c = grind (arith, is-cluster, line-is)
