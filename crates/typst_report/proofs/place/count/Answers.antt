use Rattle.typst_report.proofs.Cited.{common_steps, arith, YieldsList-from_chars, YieldsList-turn, YieldsList-end, length_push, at_drop_all}
use Rattle.typst_report.proofs.PlaceLemmas.{units_text}
use Rattle.typst_report.proofs.place.count.Goals as goal

pub overflow_add-units : goal.overflow_add-units
overflow_add-units c = grind (arith, units_text)

pub loop-c-preserved : goal.loop-c-preserved
loop-c-preserved c =
    let t = YieldsList-turn (YieldsList-from_chars c.args.text.now c.utf8.text cc) c.loop-c.yielded _ c.loop-c.yielded_by _ _ c.in-Some.c c.in-Some.is c.next.ensures.steps in
    grind (arith, common_steps, length_push)

pub returns-clause-characters : goal.returns-clause-characters
returns-clause-characters c =
    grind (arith, common_steps, YieldsList-end (YieldsList-from_chars c.args.text.now c.utf8.text cc) c.loop-c.yielded _ c.loop-c.yielded_by _ _ c.in-None.is c.next.ensures.steps)

pub returns-clause-units : goal.returns-clause-units
returns-clause-units c =
    grind (arith, common_steps, YieldsList-end (YieldsList-from_chars c.args.text.now c.utf8.text cc) c.loop-c.yielded _ c.loop-c.yielded_by _ _ c.in-None.is c.next.ensures.steps, at_drop_all)
