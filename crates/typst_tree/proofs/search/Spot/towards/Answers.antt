use Rattle.std.proofs.Common.{arith}
use Rattle.typst_tree.proofs.WalksInPreorder.{within_self, within_in}
use Rattle.typst_tree.proofs.FoundFrom.{among}
use Rattle.typst_tree.proofs.search.Spot.towards.Goals as goal

pub loop-init : goal.loop-init
loop-init c = grind (arith, within_self)

pub child_over-requires-clause-counted : goal.child_over-requires-clause-counted
child_over-requires-clause-counted c =
    omega (arith, (among c.args.self.now c.loop.spot c.loop.invariant.inside).1, c.requires.counted)

pub loop-preserved : goal.loop-preserved
loop-preserved c = grind (arith, within_in)
