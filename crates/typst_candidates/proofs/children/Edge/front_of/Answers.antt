use Rattle.std.proofs.Common.{arith}
use Rattle.typst_candidates.proofs.Edges.{begins_first}
use Rattle.typst_candidates.proofs.children.Edge.front_of.Goals as goal

pub returns : goal.returns
returns c = grind (arith, begins_first)
