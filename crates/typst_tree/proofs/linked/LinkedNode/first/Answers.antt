use Rattle.std.proofs.Common.{◌∙◌, arith, sym}
use Rattle.typst_tree.proofs.Branches.{room}
use Rattle.typst_tree.proofs.NodesOfStretch.{first_here}
use Rattle.typst_tree.proofs.RisingNumbers.{in_order_here}
use Rattle.typst_tree.proofs.linked.LinkedNode.first.Goals as goal

pub find_in-requires-clause-counted : goal.find_in-requires-clause-counted
find_in-requires-clause-counted c = omega (arith, room c.args.self)

pub find_in-requires-clause-ordered : goal.find_in-requires-clause-ordered
find_in-requires-clause-ordered c = λ e.
    in_order_here c.args.self.root.now c.args.self.number c.args.self.offset c.args.self.node.now c.args.self.stands (c.args.self.ordered (sym c.in_order-in_order.ensures ∙ e))

pub returns-in_err-spot : goal.returns-in_err-spot
returns-in_err-spot c = grind (arith, first_here)

pub returns : goal.returns
returns c = grind (arith, first_here)
