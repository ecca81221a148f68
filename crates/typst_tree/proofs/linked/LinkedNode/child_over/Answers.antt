use Rattle.typst_tree.proofs.Cited.{ap, arith, nodes, places}
use Rattle.typst_tree.proofs.Branches.{room}
use Rattle.typst_tree.proofs.NodesOfStretch.{stands_row}
use Rattle.typst_tree.proofs.linked.LinkedNode.child_over.Goals as goal

pub child_over-requires-clause-counted : goal.child_over-requires-clause-counted
child_over-requires-clause-counted c =
    omega (arith, room c.args.self, c.spot.ensures.number, ap nodes c.spot.ensures.node)

pub returns-clause-stands : goal.returns-clause-stands
returns-clause-stands c =
    stands_row (places c.args.self.root.now) c.spot.result.number c.spot.result.offset _ _ (places c.spot.result.node.now) _
    (rw (c.spot.ensures.number, c.spot.ensures.offset, c.spot.ensures.node) c.args.self.stands) c.child_over.ensures.spot
