use Rattle.typst_tree.proofs.ReplacesChildren.{replaces_text}
use Rattle.typst_tree.proofs.laws.replaces_text.Goals as goal

pub returns : goal.returns
returns c = λ path from to new t u r e. replaces_text path from to new t u r e
