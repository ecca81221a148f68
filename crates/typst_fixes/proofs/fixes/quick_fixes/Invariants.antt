use Rattle.typst_fixes.proofs.Cited.{◌≡◌, ◌++◌, left_all, steps_all}
use Rattle.typst_fixes.specs.Fixes as spec
use Rattle.typst_fixes.proofs.fixes.quick_fixes.Given as goal

abbrev pub invariant-loop-row : goal.invariant-loop-row
invariant-loop-row l = spec.stated l.found.fixes.items ++ left_all l.within l.rows.items ≡ spec.fixes l.within l.root

abbrev pub decreases-loop-row : goal.decreases-loop-row
decreases-loop-row l = steps_all l.rows.items
