use Rattle.typst_highlight.proofs.Cited.{◌≡◌, length, forest, next_kind}
use Rattle.typst_highlight.proofs.walk.next_kind.Given as goal

abbrev pub invariant-loop-node : goal.invariant-loop-node
invariant-loop-node l = next_kind (forest l.nodes) ≡ next_kind (forest l.rest)

abbrev pub decreases-loop-node : goal.decreases-loop-node
decreases-loop-node l = length l.rest
