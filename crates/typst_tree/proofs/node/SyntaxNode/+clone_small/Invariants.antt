use Rattle.std.proofs.Common.{◌≡◌, take}
use Rattle.typst_tree.proofs.node.SyntaxNode.+clone_small.Given as goal

abbrev pub invariant-loop-kid : goal.invariant-loop-kid
invariant-loop-kid l = l.kids.items ≡ take l.kid-index l.kid-items
