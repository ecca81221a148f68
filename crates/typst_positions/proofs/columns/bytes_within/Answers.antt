use Rattle.typst_positions.proofs.Cited.{common_steps, ◌-◌, arith, YieldsList-from_chars, at_drop_all, length_push, bytes_before, YieldsList-turn, YieldsList-end}
use Rattle.typst_positions.proofs.Widths.{measured-more, measured-stops, total-more, total-text}
use Rattle.typst_positions.proofs.columns.bytes_within.Goals as goal

pub loop-c-init : goal.loop-c-init
loop-c-init c = record { counted = omega arith; within = omega (arith, total-text c.args.line.now c.utf8.line) }

pub returns-then-width-left-clause-value : goal.returns-then-width-left-clause-value
unfolding bytes_before
returns-then-width-left-clause-value c =
    let t = YieldsList-turn (YieldsList-from_chars c.args.line.now c.utf8.line cc) c.loop-c.yielded _ c.loop-c.yielded_by _ _ c.in-Some.c c.in-Some.is c.next.ensures.steps in
    grind (arith, common_steps, measured-stops)

pub loop-c-preserved : goal.loop-c-preserved
loop-c-preserved c =
    let t = YieldsList-turn (YieldsList-from_chars c.args.line.now c.utf8.line cc) c.loop-c.yielded _ c.loop-c.yielded_by _ _ c.in-Some.c c.in-Some.is c.next.ensures.steps in
    grind (arith, common_steps, measured-more, length_push, total-more)

pub returns-clause-value : goal.returns-clause-value
unfolding bytes_before
returns-clause-value c =
    let t = YieldsList-end (YieldsList-from_chars c.args.line.now c.utf8.line cc) c.loop-c.yielded _ c.loop-c.yielded_by _ _ c.in-None.is c.next.ensures.steps in
    grind (arith, common_steps, at_drop_all)
