use Rattle.typst_report.proofs.Cited.{map, refl, arith, command, commands, as_placed}
use Rattle.typst_report.proofs.LineLemmas.{lines_more}
use Rattle.typst_report.proofs.github.commands_of.Goals as goal

pub loop-one-preserved : goal.loop-one-preserved
loop-one-preserved c =
    lines_more (λ xs. commands c.args.name.now (map as_placed xs)) (λ x. command c.args.name.now (as_placed x)) c.args.located.now c.loop-one.one-index c.one-item.result _ _ _
    (λ y ys. refl) (omega arith) c.one-item.is c.in_ok-push_command.ensures c.loop-one.invariant
