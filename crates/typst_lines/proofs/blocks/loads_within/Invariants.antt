use Rattle.typst_lines.proofs.Cited.{◌≡◌, ◌≤◌, ◌*◌, ◌-◌, length, take, sum_by}
use Rattle.typst_lines.proofs.blocks.loads_within.Given as goal

abbrev pub invariant-loop-at : goal.invariant-loop-at
invariant-loop-at g l = record {
  within : l.at ≤ length l.bytes;
  measured : l.sum ≡ sum_by g.M.Measure.begun (take l.at l.bytes);
  bounded : l.sum ≤ l.most;
  small : l.sum ≤ 2 * l.at;
}

abbrev pub decreases-loop-at : goal.decreases-loop-at
decreases-loop-at g l = length l.bytes - l.at
