use Rattle.typst_tree.proofs.KeepsOrder.{keeps_order}
use Rattle.typst_tree.proofs.laws.keeps_order.Goals as goal

pub returns : goal.returns
returns c = λ path from to new t u w r e o. keeps_order path from to new t u w r e o
