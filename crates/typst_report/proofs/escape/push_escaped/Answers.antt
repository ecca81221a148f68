use Rattle.typst_report.proofs.Cited.{common_steps, append-nil, arith, YieldsList-from_chars, YieldsList-turn, YieldsList-end, length_push, at_drop_all}
use Rattle.typst_report.proofs.EscapeLemmas.{escaped_more}
use Rattle.typst_report.proofs.escape.push_escaped.Goals as goal

pub loop-c-preserved : goal.loop-c-preserved
loop-c-preserved c =
    grind (arith, common_steps, YieldsList-turn (YieldsList-from_chars c.args.text.now c.utf8.text cc) c.loop-c.yielded _ c.loop-c.yielded_by _ _ c.in-Some.c c.in-Some.is c.next.ensures.steps, escaped_more, length_push)

pub returns : goal.returns
returns c =
    let t = YieldsList-end (YieldsList-from_chars c.args.text.now c.utf8.text cc) c.loop-c.yielded _ c.loop-c.yielded_by _ _ c.in-None.is c.next.ensures.steps in
    grind (arith, common_steps, at_drop_all, append-nil)
