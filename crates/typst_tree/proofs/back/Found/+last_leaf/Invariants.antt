use Rattle.typst_tree.proofs.Cited.{◌≡◌, ◌+◌, ◌*◌, ◌^◌, ◌-◌, ◌<◌, ◌≤◌, ◌∷◌, take, length, forest, count, nodes, preorder, last_leaf, IsUnder, last_of}
use Rattle.typst_tree.proofs.back.Found.+last_leaf.Given as goal

abbrev pub decreases-last_leaf : goal.decreases-last_leaf
decreases-last_leaf l = 3 * nodes l.self.node.now + 2

abbrev pub decreases-last_before : goal.decreases-last_before
decreases-last_before l = 3 * nodes l.self.node.now + 1

abbrev pub decreases-look_back : goal.decreases-look_back
decreases-look_back l = 3 * nodes l.self.node.now

abbrev pub decreases-last_leaf-loop-found : goal.decreases-last_leaf-loop-found
decreases-last_leaf-loop-found l = nodes l.way.node.now

abbrev pub invariant-last_leaf-loop-found : goal.invariant-last_leaf-loop-found
invariant-last_leaf-loop-found l = record {
  below : IsUnder l.fn.self l.way;
  begun : l.way.number < l.until;
  ends : l.until ≤ l.way.number + nodes l.way.node.now;
  same : last_of l.fn.before l.fn.self ≡ last_of l.until l.fn.self;
  size : l.levels + nodes l.way.node.now ≤ nodes l.fn.self.node.now;
}

abbrev pub decreases-last_before-loop-left : goal.decreases-last_before-loop-left
decreases-last_before-loop-left l = l.left

abbrev pub invariant-last_before-loop-left : goal.invariant-last_before-loop-left
invariant-last_before-loop-left l = record {
  begun : l.fn.self.number ≤ l.until;
  ends : l.until ≤ l.fn.self.number + nodes l.fn.self.node.now;
  same : last_of l.fn.before l.fn.self ≡ last_of l.until l.fn.self;
}

abbrev pub decreases-look_back-loop-index : goal.decreases-look_back-loop-index
decreases-look_back-loop-index l = l.index

abbrev pub invariant-look_back-loop-index : goal.invariant-look_back-loop-index
invariant-look_back-loop-index l = record {
  bounded : l.index ≤ length l.row;
  last : last_of l.fn.before l.fn.self ≡ last_leaf l.fn.before l.fn.self.number (l.fn.self.node.now ∷ preorder (forest (take l.index l.row)));
  end_is : l.end ≡ l.fn.self.number + 1 + count (forest (take l.index l.row));
  counted : l.fn.self.number + 1 + count (forest (take l.index l.row)) < 2 ^ 64 - 1;
  smaller : count (forest (take l.index l.row)) < nodes l.fn.self.node.now;
}
