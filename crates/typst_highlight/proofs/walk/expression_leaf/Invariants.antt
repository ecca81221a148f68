use Rattle.typst_highlight.proofs.Cited.{◌≡◌, ◌<◌, length, count, forest, expression_at, found, size}
use Rattle.typst_highlight.proofs.walk.expression_leaf.Given as goal

abbrev pub invariant-loop-node : goal.invariant-loop-node
invariant-loop-node l = record {
  left : expression_at l.fn.hash ≡ (found l.at (forest l.rest)).expression;
  smaller : count (forest l.rest) < size l.fn.hash;
}

abbrev pub decreases-loop-node : goal.decreases-loop-node
decreases-loop-node l = length l.rest
