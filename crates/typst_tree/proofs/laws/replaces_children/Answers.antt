use Rattle.typst_tree.proofs.ReplacesChildren.{replaces_children}
use Rattle.typst_tree.proofs.laws.replaces_children.Goals as goal

pub returns : goal.returns
returns c = λ path from to new t u r e. replaces_children path from to new t u r e
