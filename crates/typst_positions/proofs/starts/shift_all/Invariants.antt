use Rattle.typst_positions.proofs.Cited.{◌≡◌, ◌++◌, map, take, drop, shifted}
use Rattle.typst_positions.proofs.starts.shift_all.Given as goal

abbrev pub invariant-loop-at : goal.invariant-loop-at
invariant-loop-at l = l.starts ≡ map (shifted l.from l.to) (take l.at-index l.fn.starts) ++ drop l.at-index l.fn.starts
