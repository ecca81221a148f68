use Rattle.typst_tree.proofs.Cited.{◌≡◌, ◌+◌, ◌*◌, ◌++◌, take, drop, forest, count, numbered_list}
use Rattle.typst_tree.proofs.node.SyntaxNode.+number_small.Given as goal

abbrev pub invariant-number_kids-loop-kid : goal.invariant-number_kids-loop-kid
invariant-number_kids-loop-kid l = record {
  unvisited : goal.unvisited-number_kids-loop-kid l;
  place : l.at ≡ l.start + l.step + count (forest (take l.kid-index l.initial.kid-items)) * l.step;
  done : l.kid-items ≡ numbered_list l.id l.step (l.start + l.step) (take l.kid-index l.initial.kid-items) ++ drop l.kid-index l.initial.kid-items;
}
