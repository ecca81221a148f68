use Rattle.typst_tree.proofs.Cited.{◌≡◌, ◌+◌, ◌≤◌, take, length, forest, count, joined}
use Rattle.typst_tree.proofs.order.summed_back_to.Given as goal

abbrev pub decreases-loop-i : goal.decreases-loop-i
decreases-loop-i l = l.i

abbrev pub invariant-loop-i : goal.invariant-loop-i
invariant-loop-i l = record {
  from : l.index ≤ l.i;
  within : l.i ≤ length l.row;
  number : l.at ≡ l.number + count (forest (take l.i l.row));
  offset : l.begin ≡ l.offset + length (joined (forest (take l.i l.row)));
}
