use Rattle.std.proofs.Common.{◌≡◌}
use Rattle.typst_features.specs.Shown as spec
use Rattle.typst_features.specs.ShownRows.{left_all, steps_all, told}
use Rattle.typst_features.proofs.typing.shown_problems.Given as goal

abbrev pub invariant-loop-row : goal.invariant-loop-row
invariant-loop-row l = told l.shown (left_all l.rows.items) ≡ spec.shown l.root

abbrev pub decreases-loop-row : goal.decreases-loop-row
decreases-loop-row l = steps_all l.rows.items
