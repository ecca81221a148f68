use Rattle.typst_tree.proofs.Cited.{◌≤◌, nodes}
use Rattle.typst_tree.proofs.node.SyntaxNode.+drop.Given as goal

abbrev pub invariant-drop_parent-loop-kids : goal.invariant-drop_parent-loop-kids
invariant-drop_parent-loop-kids l = nodes l.self ≤ nodes l.initial.self

abbrev pub decreases-drop_parent-loop-kids : goal.decreases-drop_parent-loop-kids
decreases-drop_parent-loop-kids l = nodes l.self
