use Rattle.typst_fixes.proofs.Cited.{◌≡◌, length, forest}
use Rattle.typst_fixes.specs.Wrapped as spec
use Rattle.typst_fixes.proofs.wrapping.label_after.Given as goal

abbrev pub invariant-loop-node : goal.invariant-loop-node
invariant-loop-node l = spec.label_after l.start (forest l.rest) ≡ spec.label_after l.byte (forest l.nodes)

abbrev pub decreases-loop-node : goal.decreases-loop-node
decreases-loop-node l = length l.rest
