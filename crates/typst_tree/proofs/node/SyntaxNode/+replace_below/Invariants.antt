use Rattle.std.proofs.Common.{length}
use Rattle.typst_tree.proofs.node.SyntaxNode.+replace_below.Given as goal

abbrev pub decreases-replace_below : goal.decreases-replace_below
decreases-replace_below l = length l.path.now
