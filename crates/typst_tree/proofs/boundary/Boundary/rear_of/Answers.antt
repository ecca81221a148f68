use Rattle.std.proofs.Common.{arith}
use Rattle.typst_tree.proofs.Boundaries.{rear}
use Rattle.typst_tree.proofs.Rows.{length_row}
use Rattle.typst_tree.proofs.boundary.Boundary.rear_of.Goals as goal

pub returns-clause-index : goal.returns-clause-index
returns-clause-index c = omega (arith, length_row c.children.result.now c.args.root.now.kids c.children.ensures)

pub returns-clause-boundary : goal.returns-clause-boundary
returns-clause-boundary c =
    rear c.args.root.now c.children.result.now c.descendants.result c.len.result c.requires c.children.ensures c.descendants.ensures c.len.ensures
