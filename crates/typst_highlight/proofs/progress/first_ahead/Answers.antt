use Rattle.typst_highlight.proofs.Cited.{common_steps, ◌-◌, ap, sym, arith, length, reverse, take_all, ahead_of}
use Rattle.typst_highlight.proofs.progress.first_ahead.Goals as goal

pub loop-index-init : goal.loop-index-init
loop-index-init c = ap (λ ws. ahead_of (reverse ws)) (sym (take_all (length c.args.waiting.now) c.args.waiting.now (omega arith)))

pub loop-index-preserved : goal.loop-index-preserved
loop-index-preserved c = grind (arith, common_steps)

pub returns : goal.returns
returns c = grind arith
