use Rattle.typst_highlight.proofs.Cited.{◌≡◌, length, forest, first_leaf}
use Rattle.typst_highlight.proofs.context.leaf_among.Given as goal

abbrev pub invariant-loop-node : goal.invariant-loop-node
invariant-loop-node l = first_leaf l.fn.parent l.fn.offset (forest l.nodes) ≡ first_leaf l.fn.parent l.start (forest l.rest)

abbrev pub decreases-loop-node : goal.decreases-loop-node
decreases-loop-node l = length l.rest
