use Rattle.typst_highlight.proofs.Cited.{◌≡◌, length, forest, is_followed}
use Rattle.typst_highlight.proofs.context.is_followed.Given as goal

abbrev pub invariant-loop-node : goal.invariant-loop-node
invariant-loop-node l = is_followed (forest l.nodes) ≡ is_followed (forest l.rest)

abbrev pub decreases-loop-node : goal.decreases-loop-node
decreases-loop-node l = length l.rest
