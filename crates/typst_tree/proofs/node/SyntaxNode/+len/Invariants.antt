use Rattle.typst_tree.proofs.Cited.{◌≡◌, ◌+◌, ◌<◌, ◌≤◌, ◌^◌, nodes, saturated}
use Rattle.typst_tree.proofs.AddedChildren.{Adds, tree_long, row_long}
use Rattle.typst_tree.proofs.node.SyntaxNode.+len.Given as goal

abbrev pub invariant-added_len-loop-node : goal.invariant-added_len-loop-node
invariant-added_len-loop-node l = record {
  long : saturated (l.len + tree_long l.node) ≡ saturated (tree_long l.self);
  small : l.len < 2 ^ 64;
  size : nodes l.node ≤ nodes l.self;
}

abbrev pub invariant-added_len-loop-i : goal.invariant-added_len-loop-i
invariant-added_len-loop-i l = Adds row_long tree_long l.len l.last l.i l.node-inside.kids.items (saturated (tree_long l.self))
