use Rattle.std.proofs.Common.{arith}
use Rattle.typst_parser.proofs.Paths.{child-there, child-within, leads-further, start-on, start-within, step-begins, step-within}
use Rattle.typst_parser.proofs.attempt.byte_at.Goals as goal

pub loop-step-init : goal.loop-step-init
loop-step-init c = record { leads = c.requires.leads; start = omega arith; within = omega arith }

pub byte_before-at-requires : goal.byte_before-at-requires
byte_before-at-requires c = grind (arith, step-within)

pub overflow_add-at : goal.overflow_add-at
overflow_add-at c = grind (arith, step-begins)

pub bounds-children-step : goal.bounds-children-step
bounds-children-step c = child-there c.loop-step.node.now c.args.path.now c.loop-step.step-index (omega (arith, c.loop-step-test.true)) c.loop-step.invariant.leads c.children.result.now c.children.ensures

pub offset_bounds-children-step : goal.offset_bounds-children-step
offset_bounds-children-step c = grind (arith, child-there)

pub loop-step-preserved : goal.loop-step-preserved
loop-step-preserved c = grind (arith, child-within, start-on, leads-further)

pub overflow_add-result : goal.overflow_add-result
overflow_add-result c = omega (arith, start-within c.loop-step.node.now, c.byte_before.ensures, c.loop-step.invariant.within, c.requires.fits)
