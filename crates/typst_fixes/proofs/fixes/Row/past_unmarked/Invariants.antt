use Rattle.typst_fixes.proofs.Cited.{◌≡◌, ℕ, ◌≤◌, left, steps_left, Range}
use Rattle.typst_fixes.proofs.fixes.Row.past_unmarked.Given as goal

abbrev pub invariant-loop-node : goal.invariant-loop-node
invariant-loop-node l = record {
  left : (w : Range ℕ) → left w l.row ≡ left w l.fn.self;
  steps : steps_left l.row ≤ steps_left l.fn.self;
}

abbrev pub decreases-loop-node : goal.decreases-loop-node
decreases-loop-node l = steps_left l.row
