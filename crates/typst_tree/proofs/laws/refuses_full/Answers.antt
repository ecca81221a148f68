use Rattle.typst_tree.specs.Laws.{IsFull}
use Rattle.typst_tree.proofs.RefusesFull.{replaced_full}
use Rattle.typst_tree.proofs.AlongPath.{refused_along}
use Rattle.typst_tree.proofs.laws.refuses_full.Goals as goal

pub returns : goal.returns
returns c = λ path from to new t r e. refused_along (IsFull from to new) from to new (replaced_full from to new) path t r e
