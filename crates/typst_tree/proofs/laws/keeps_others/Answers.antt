use Rattle.typst_tree.specs.Laws.{touched, Keeps}
use Rattle.typst_tree.proofs.KeepsOthers.{replaced_keeps}
use Rattle.typst_tree.proofs.AlongPath.{along}
use Rattle.typst_tree.proofs.laws.keeps_others.Goals as goal

pub returns : goal.returns
returns c = λ path from to new t u r e. along (λ n m. Keeps (touched from to new n) n m) from to new (replaced_keeps from to new) path t u r e
