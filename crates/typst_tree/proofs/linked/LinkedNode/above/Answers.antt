use Rattle.std.proofs.Common.{ap}
use Rattle.typst_tree.proofs.Branches.{inside_top}
use Rattle.typst_tree.proofs.linked.LinkedNode.above.Goals as goal

pub above_in-requires-2-clause-to : goal.above_in-requires-2-clause-to
above_in-requires-2-clause-to c = inside_top c.args.self c.top.result (ap (λ a. a.root) c.top.ensures) (ap (λ a. a.number) c.top.ensures)
