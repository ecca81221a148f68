use Rattle.typst_features.proofs.Cited.{common_steps, arith}
use Rattle.typst_features.proofs.ShownProblems.{about_saturated, takes_more}
use Rattle.typst_features.proofs.typing.Shown.add_own.Goals as goal

pub loop-diagnostic-preserved : goal.loop-diagnostic-preserved
loop-diagnostic-preserved c = grind (arith, common_steps, about_saturated, takes_more)
