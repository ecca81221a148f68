use Rattle.typst_edits.proofs.Children.{back-law, children-law, node-law}
use Rattle.typst_edits.proofs.laws.children_law.Goals as goal

pub returns : goal.returns
returns c = record { pieces = children-law; node = node-law; back = back-law }
