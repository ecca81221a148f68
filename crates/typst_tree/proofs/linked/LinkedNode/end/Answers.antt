use Rattle.std.proofs.Common.{arith}
use Rattle.typst_tree.proofs.Branches.{room}
use Rattle.typst_tree.proofs.linked.LinkedNode.end.Goals as goal

pub overflow_add-result : goal.overflow_add-result
overflow_add-result c = omega (arith, room c.args.self, c.descendants.ensures)

pub returns : goal.returns
returns c = omega (arith, room c.args.self, c.descendants.ensures)
