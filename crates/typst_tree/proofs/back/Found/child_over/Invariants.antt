use Rattle.typst_tree.proofs.Cited.{◌≡◌, ◌+◌, ◌^◌, ◌-◌, ◌<◌, ◌≤◌, take, length, forest, count}
use Rattle.typst_tree.proofs.back.Found.child_over.Given as goal

abbrev pub decreases-loop-end : goal.decreases-loop-end
decreases-loop-end l = l.index

abbrev pub invariant-loop-end : goal.invariant-loop-end
invariant-loop-end l = record {
  bounded : l.index ≤ length l.row;
  end_is : l.end ≡ l.fn.self.number + 1 + count (forest (take l.index l.row));
  counted : l.fn.self.number + 1 + count (forest (take l.index l.row)) < 2 ^ 64 - 1;
  after : l.fn.wanted < l.end;
}
