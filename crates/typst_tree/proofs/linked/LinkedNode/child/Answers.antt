use Rattle.std.proofs.Common.{◌-◌, arith}
use Rattle.typst_tree.proofs.Forks.{holds_child, later}
use Rattle.typst_tree.proofs.Parents.{child_bounds}
use Rattle.typst_tree.proofs.linked.LinkedNode.child.Goals as goal

pub known_of-requires : goal.known_of-requires
known_of-requires c =
    let bounds = child_bounds _ _ _ _ _ c.requires.child in
    record {
      number = omega (arith, c.as_parent.ensures.number, bounds.from);
      offset = omega (arith, c.as_parent.ensures.offset, later _ _ _ _ _ _ _ c.args.self.stands c.requires.stands (omega (arith, bounds.from)));
    }

pub invariant_of-result : goal.invariant_of-result
invariant_of-result c = grind (arith, holds_child)
