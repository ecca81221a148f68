use Rattle.typst_tree.proofs.Cited.{common_steps, arith}
use Rattle.typst_tree.proofs.ChildlessLeaves.{whole_more}
use Rattle.typst_tree.proofs.Marks.{have_more}
use Rattle.typst_tree.proofs.replace.totals.Goals as goal

pub loop-kid-preserved : goal.loop-kid-preserved
loop-kid-preserved c = grind (arith, common_steps, have_more, whole_more)
