use Rattle.std.proofs.Common.{arith, sym}
use Rattle.typst_candidates.proofs.Edges.{begins_first}
use Rattle.typst_candidates.proofs.children.Children.front.Goals as goal

pub returns-clause-edge : goal.returns-clause-edge
returns-clause-edge c = record { within = omega arith; byte = sym (begins_first c.args.self.now.at c.args.self.now.kids.now) }
