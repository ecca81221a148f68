use Rattle.typst_tree.proofs.Cited.{◌≡◌, ◌+◌, ◌-◌, ◌^◌, ◌<◌, ◌≤◌, take, length, ◌∷◌, forest, count, nodes, places, preorder, last_leaf}
use Rattle.typst_tree.proofs.back.Found.+goes_back.Given as goal

abbrev pub decreases-goes_back : goal.decreases-goes_back
decreases-goes_back l = nodes l.self.now.node.now

abbrev pub decreases-loop-index : goal.decreases-loop-index
decreases-loop-index l = l.index

abbrev pub invariant-loop-index : goal.invariant-loop-index
invariant-loop-index l = record {
  bounded : l.index ≤ length l.row;
  last : last_leaf l.before l.fn.self.number (places l.fn.self.node.now) ≡ last_leaf l.before l.fn.self.number (l.fn.self.node.now ∷ preorder (forest (take l.index l.row)));
  end_is : l.end ≡ l.fn.self.number + 1 + count (forest (take l.index l.row));
  counted : l.fn.self.number + 1 + count (forest (take l.index l.row)) < 2 ^ 64 - 1;
  smaller : count (forest (take l.index l.row)) < nodes l.fn.self.node.now;
}
