use Rattle.std.proofs.Common.{◌≡◌, take}
use Rattle.typst_styles.proofs.delta.common_front.Given as goal

abbrev pub invariant-loop-index : goal.invariant-loop-index
invariant-loop-index l = take l.index l.old ≡ take l.index l.new
