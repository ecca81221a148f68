use Rattle.typst_features.proofs.Cited.{◌≡◌, ◌++◌, map, left_all, steps_all}
use Rattle.typst_features.specs.Labels as spec
use Rattle.typst_features.proofs.naming.mentions.Given as goal

abbrev pub invariant-loop-row : goal.invariant-loop-row
invariant-loop-row l = map spec.mentioned l.found.items ++ spec.of_name l.name (left_all l.rows.items) ≡ spec.of_name l.name (spec.mentions l.root)

abbrev pub decreases-loop-row : goal.decreases-loop-row
decreases-loop-row l = steps_all l.rows.items
