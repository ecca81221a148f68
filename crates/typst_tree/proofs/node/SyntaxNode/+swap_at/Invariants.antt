use Rattle.std.proofs.Common.{length}
use Rattle.typst_tree.proofs.node.SyntaxNode.+swap_at.Given as goal

abbrev pub decreases-swap_at : goal.decreases-swap_at
decreases-swap_at l = length l.path.now
