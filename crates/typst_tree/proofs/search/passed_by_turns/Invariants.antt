use Rattle.typst_tree.proofs.Cited.{◌≡◌, ◌+◌, ◌^◌, ◌<◌, ◌-◌, None, length, take, drop, forest, count, preorder, joined, IsPassed, first_at, holds_byte}
use Rattle.typst_tree.proofs.search.passed_by_turns.Given as goal

abbrev pub invariant-loop-tree : goal.invariant-loop-tree
invariant-loop-tree l = record {
  passed : IsPassed l.row (l.fn.over.number + 1) l.start l.front.index l.front.number l.front.offset;
  nothing : first_at (holds_byte l.byte) (l.fn.over.number + 1) l.start (preorder (forest (take l.front.index l.row))) ≡ None;
  front : l.front.index ≡ l.tree-index;
  counted : l.front.number + count (forest (drop l.front.index l.row)) < 2 ^ 64 - 1;
  back : l.index + l.tree-index ≡ length l.row;
  number : l.end ≡ l.fn.over.number + 1 + count (forest (take l.index l.row));
  offset : l.left ≡ length (joined (forest (take l.index l.row)));
}
