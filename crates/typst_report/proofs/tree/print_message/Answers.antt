use Rattle.typst_report.proofs.Cited.{common_steps, cond, append-nil, arith, YieldsList-from_chars, YieldsList-turn, YieldsList-end, length_push, at_drop_all}
use Rattle.typst_report.proofs.Printing.{spaced_more}
use Rattle.typst_report.proofs.tree.print_message.Goals as goal
use Rattle.typst_report.proofs.tree.print_message.Goals.{then-is_newline, else-is_newline}

pub loop-c-preserved : goal.loop-c-preserved
loop-c-preserved c =
    let t = YieldsList-turn (YieldsList-from_chars c.args.message.now c.utf8.message cc) c.loop-c.yielded _ c.loop-c.yielded_by _ _ c.in-Some.c c.in-Some.is c.next.ensures.steps in
    grind (arith, common_steps, cond, then-is_newline, else-is_newline, spaced_more, length_push)

pub returns : goal.returns
returns c =
    let t = YieldsList-end (YieldsList-from_chars c.args.message.now c.utf8.message cc) c.loop-c.yielded _ c.loop-c.yielded_by _ _ c.in-None.is c.next.ensures.steps in
    grind (arith, common_steps, at_drop_all, append-nil)
