use Rattle.typst_tree.proofs.Cited.{◌≡◌, ◌++◌, length, marked, IsReady, left, left_above}
use Rattle.typst_tree.proofs.preorder.Preorder.pass_unmarked.Given as goal

abbrev pub invariant-loop-visit : goal.invariant-loop-visit
invariant-loop-visit l = record {
  ready : IsReady l.self-inside.here l.self-inside.above.items;
  kept : marked (left l.self-inside.here ++ left_above l.self-inside.above.items) ≡ marked (left l.initial.self-inside.here ++ left_above l.initial.self-inside.above.items);
}

abbrev pub decreases-loop-visit : goal.decreases-loop-visit
decreases-loop-visit l = length (left l.self-inside.here ++ left_above l.self-inside.above.items)
