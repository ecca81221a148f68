use Rattle.typst_highlight.proofs.Cited.{◌≡◌, ◌+◌, ◌*◌, ◌≤◌, forest, count, first_ahead, first_leaf}
use Rattle.typst_highlight.proofs.context.+leaves.Given as goal

abbrev pub decreases-first_leaf : goal.decreases-first_leaf
decreases-first_leaf l = 2 * count (forest l.nodes.now)

abbrev pub decreases-leaf_below : goal.decreases-leaf_below
decreases-leaf_below l = 2 * count l.node.now.kids + 1

abbrev pub invariant-first_leaf-loop-node : goal.invariant-first_leaf-loop-node
invariant-first_leaf-loop-node l = record {
  found : first_leaf l.fn.parent l.fn.offset (forest l.nodes) ≡ first_ahead (first_leaf l.parent l.offset (forest l.rest)) l.behind;
  smaller : count (forest l.rest) ≤ count (forest l.nodes);
}

abbrev pub decreases-first_leaf-loop-node : goal.decreases-first_leaf-loop-node
decreases-first_leaf-loop-node l = count (forest l.rest)
