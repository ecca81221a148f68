use Rattle.typst_protocol.proofs.Cited.{common_steps, arith, length-drop, take_rest}
use Rattle.typst_protocol.proofs.Mending.{mends-end, mends-piece, mends-unit}
use Rattle.typst_protocol.proofs.escapes.mend.Goals as goal

pub overflow_add-at : goal.overflow_add-at
overflow_add-at c = grind (arith, common_steps)

pub loop-at-preserved-in-Some : goal.loop-at-preserved-in-Some
loop-at-preserved-in-Some c = grind (arith, take_rest, length-drop, mends-unit)

pub overflow_add-at-in-None : goal.overflow_add-at-in-None
overflow_add-at-in-None c = grind (arith, common_steps)

pub loop-at-preserved : goal.loop-at-preserved
loop-at-preserved c = grind (arith, take_rest, mends-piece)

pub shape_of-body : goal.shape_of-body
shape_of-body c = grind (arith, common_steps)

pub returns : goal.returns
returns c = mends-end c.args.body.now c.loop-at.body c.loop-at.at c.loop-at.is_behind_high c.loop-at-test.false c.loop-at.invariant
