use Rattle.typst_tree.proofs.Cited.{◌≡◌, drop, node_at}
use Rattle.typst_tree.proofs.node.SyntaxNode.node_at.Given as goal

abbrev pub invariant-loop-at : goal.invariant-loop-at
invariant-loop-at l = node_at (drop l.at-index l.path) l.node ≡ node_at l.path l.self
