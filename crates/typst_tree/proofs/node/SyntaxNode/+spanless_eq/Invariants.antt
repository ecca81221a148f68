use Rattle.typst_tree.proofs.Cited.{◌≡◌, ◌≢◌, ℕ, ◌<◌, ◌≤◌, get_or, Tree, bare, nodes}
use Rattle.typst_tree.proofs.node.SyntaxNode.+spanless_eq.Given as goal

abbrev pub invariant-loop-i : goal.invariant-loop-i
invariant-loop-i l = (k : ℕ) (d : Tree) → k < l.i → k ≢ l.last → bare (get_or l.left-inside.kids.items k d) ≡ bare (get_or l.right-inside.kids.items k d)

abbrev pub invariant-loop-left : goal.invariant-loop-left
invariant-loop-left l = record {
  size : nodes l.left ≤ nodes l.self;
  there : bare l.self ≡ bare l.other → bare l.left ≡ bare l.right;
  back : bare l.left ≡ bare l.right → bare l.self ≡ bare l.other;
}
