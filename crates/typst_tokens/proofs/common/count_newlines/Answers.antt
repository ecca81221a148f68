use Rattle.typst_tokens.proofs.Cited.{◌∙◌, ap, false, arith, place, common_steps, line_ends}
use Rattle.typst_tokens.proofs.LineEnds.{line_ends-start, line_ends-step, line_ends-stop, line_ends-fit}
use Rattle.typst_tokens.proofs.common.count_newlines.Goals as goal

pub loop-c-init : goal.loop-c-init
loop-c-init c = let e = ap (λ p. line_ends false p.ahead) c.new-s.ensures.place ∙ line_ends-start c.args.text.now in omega arith

pub overflow_add-ends : goal.overflow_add-ends
overflow_add-ends c = grind (arith, line_ends-step, line_ends-fit)

pub loop-c-preserved : goal.loop-c-preserved
loop-c-preserved c = let step = line_ends-step c.loop-c.after_cr (place c.loop-c.s) c.in-Some.c c.in-Some.ensures.next in grind (arith, common_steps)

pub returns : goal.returns
returns c = let stop = line_ends-stop c.loop-c.after_cr (place c.loop-c.s) c.in_default.ensures.next in omega arith
