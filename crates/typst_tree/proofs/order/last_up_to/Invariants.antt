use Rattle.typst_tree.proofs.Cited.{◌≡◌, ◌-◌, ◌<◌, ◌≤◌, length, drop, true, false, forest, begins_past}
use Rattle.typst_tree.proofs.order.last_up_to.Given as goal

abbrev pub decreases-loop-high : goal.decreases-loop-high
decreases-loop-high l = l.high - l.low

abbrev pub invariant-loop-high : goal.invariant-loop-high
invariant-loop-high l = record {
  order : l.low < l.high;
  within : l.high ≤ length l.row;
  begins : 0 < l.low → begins_past l.key (forest (drop l.low l.row)) ≡ false;
  next : begins_past l.key (forest (drop l.high l.row)) ≡ true;
}
