use Rattle.typst_lexer.proofs.Cited.{◌-◌, sym, ◌∙◌, arith, place, before-all}
use Rattle.typst_lexer.proofs.Tags.{ticks-step}
use Rattle.typst_lexer.proofs.raw.before_ticks.Goals as goal

pub loop-i-init : goal.loop-i-init
loop-i-init c = grind (arith, before-all)

pub loop-i-preserved : goal.loop-i-preserved
loop-i-preserved c = ticks-step c.args.count c.loop-i.i (place c.loop-i.s) (place c.uneat.new.self) (omega arith) (sym c.if-not-is_after.ensures) c.uneat.ensures.moved ∙ c.loop-i.invariant
