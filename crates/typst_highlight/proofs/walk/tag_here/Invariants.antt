use Rattle.typst_highlight.proofs.Cited.{◌≡◌, forest, size, tag, tag_at}
use Rattle.typst_highlight.proofs.walk.tag_here.Given as goal

abbrev pub invariant-loop-bearer : goal.invariant-loop-bearer
invariant-loop-bearer l = tag l.fn.context l.fn.node (forest l.fn.later) ≡ tag_at l.bearer

abbrev pub decreases-loop-bearer : goal.decreases-loop-bearer
decreases-loop-bearer l = size l.bearer
