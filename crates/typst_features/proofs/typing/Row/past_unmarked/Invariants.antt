use Rattle.typst_features.proofs.Cited.{◌≡◌, ◌≤◌, left, steps_left}
use Rattle.typst_features.proofs.typing.Row.past_unmarked.Given as goal

abbrev pub invariant-loop-node : goal.invariant-loop-node
invariant-loop-node l = record {
  left : left l.row ≡ left l.fn.self;
  steps : steps_left l.row ≤ steps_left l.fn.self;
}

abbrev pub decreases-loop-node : goal.decreases-loop-node
decreases-loop-node l = steps_left l.row
