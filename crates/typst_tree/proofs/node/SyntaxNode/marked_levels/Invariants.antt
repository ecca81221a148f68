use Rattle.typst_tree.proofs.Cited.{◌≡◌, drop, marked_levels}
use Rattle.typst_tree.proofs.PathMarks.{all_levels}
use Rattle.typst_tree.proofs.node.SyntaxNode.marked_levels.Given as goal

abbrev pub invariant-loop-at : goal.invariant-loop-at
invariant-loop-at l = record {
  depth : l.depth ≡ l.at-index;
  levels : all_levels l.at-index l.levels (marked_levels (drop l.at-index l.path) l.node) ≡ marked_levels l.path l.self;
}
