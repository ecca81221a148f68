use Rattle.typst_tree.proofs.Cited.{arith, ap, nodes}
use Rattle.typst_tree.proofs.FoundBelow.{inside}
use Rattle.typst_tree.proofs.back.Found.towards.Goals as goal

pub child_over-requires-clause-counted : goal.child_over-requires-clause-counted
child_over-requires-clause-counted c =
    omega (arith, (inside c.args.self.number 0 c.args.self.node.now c.loop.way.number c.loop.way.begins c.loop.way.node.now c.loop.invariant.below.within).to, c.requires.counted)

pub loop-preserved : goal.loop-preserved
loop-preserved c =
    record {
      below = c.with-way.ensures.below c.args.self.node.now c.args.self.number _ c.loop.invariant.below;
      begun = omega (arith, c.with-way.ensures.number, c.child_over.ensures.from);
      ends = omega (arith, c.with-way.ensures.number, ap nodes c.with-way.ensures.node, c.child_over.ensures.to);
    }
