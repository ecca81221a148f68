use Rattle.std.proofs.Common.{◌-◌, arith}
use Rattle.typst_candidates.proofs.Edges.{stepped}
use Rattle.typst_candidates.proofs.children.Children.before.Goals as goal

pub overflow_sub-result : goal.overflow_sub-result
overflow_sub-result c = grind (arith, stepped)

pub returns-clause-edge : goal.returns-clause-edge
returns-clause-edge c = grind (arith, stepped)
