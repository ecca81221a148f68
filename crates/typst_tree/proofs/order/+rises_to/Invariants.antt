use Rattle.typst_tree.proofs.Cited.{◌≢◌, ℕ, ◌+◌, ◌<◌, ◌≤◌, ◌++◌, get_or, option_to_list, Tree, nodes, AreInOrder, numbers_of, number_at}
use Rattle.typst_tree.proofs.order.+rises_to.Given as goal

abbrev pub decreases-rises_to : goal.decreases-rises_to
decreases-rises_to l = nodes l.root.now

abbrev pub decreases-loop-node : goal.decreases-loop-node
decreases-loop-node l = nodes l.node

abbrev pub invariant-loop-node : goal.invariant-loop-node
invariant-loop-node l = record {
  size : nodes l.node ≤ nodes l.root;
  there : AreInOrder (numbers_of l.root ++ option_to_list l.fn.end) → AreInOrder (numbers_of l.node ++ option_to_list l.limit);
  back : AreInOrder (numbers_of l.node ++ option_to_list l.limit) → AreInOrder (numbers_of l.root ++ option_to_list l.fn.end);
}

abbrev pub invariant-loop-i : goal.invariant-loop-i
invariant-loop-i l = (k : ℕ) (d : Tree) → k < l.i → k ≢ l.last → AreInOrder (numbers_of (get_or l.row k d) ++ option_to_list (number_at l.row (k + 1) l.limit))
