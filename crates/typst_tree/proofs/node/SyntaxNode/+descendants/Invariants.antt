use Rattle.typst_tree.proofs.Cited.{◌≡◌, ◌+◌, ◌<◌, ◌≤◌, ◌^◌, nodes, saturated}
use Rattle.typst_tree.proofs.AddedChildren.{Adds, row_many}
use Rattle.typst_tree.proofs.node.SyntaxNode.+descendants.Given as goal

abbrev pub invariant-added_descendants-loop-node : goal.invariant-added_descendants-loop-node
invariant-added_descendants-loop-node l = record {
  many : saturated (l.descendants + nodes l.node) ≡ saturated (nodes l.self);
  small : l.descendants < 2 ^ 64;
  size : nodes l.node ≤ nodes l.self;
}

abbrev pub invariant-added_descendants-loop-i : goal.invariant-added_descendants-loop-i
invariant-added_descendants-loop-i l = Adds row_many nodes l.descendants l.last l.i l.node-inside.kids.items (saturated (nodes l.self))
