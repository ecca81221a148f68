use Rattle.typst_lines.proofs.Cited.{◌≡◌, ◌≤◌, ◌*◌, take, sum_by}
use Rattle.typst_lines.proofs.blocks.measured.Given as goal

abbrev pub invariant-loop-i : goal.invariant-loop-i
invariant-loop-i g l = record { measured : l.sum ≡ sum_by g.M.Measure.begun (take l.i l.bytes); small : l.sum ≤ 2 * l.i }
