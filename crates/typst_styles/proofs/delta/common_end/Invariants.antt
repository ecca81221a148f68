use Rattle.std.proofs.Common.{◌≡◌, ◌-◌, drop, length}
use Rattle.typst_styles.proofs.delta.common_end.Given as goal

abbrev pub invariant-loop-index : goal.invariant-loop-index
invariant-loop-index l = drop (length l.old - l.index) l.old ≡ drop (length l.new - l.index) l.new
