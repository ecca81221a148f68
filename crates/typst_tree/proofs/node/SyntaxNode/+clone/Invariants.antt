use Rattle.typst_tree.proofs.Cited.{◌≡◌, ◌+◌, ◌*◌, take, length, nodes}
use Rattle.typst_tree.proofs.Copies.{IsWay, without}
use Rattle.typst_tree.proofs.node.SyntaxNode.+clone.Given as goal

abbrev pub decreases-try_clone : goal.decreases-try_clone
decreases-try_clone l = 2 * nodes l.self.now + 1

abbrev pub decreases-clone_kids_but : goal.decreases-clone_kids_but
decreases-clone_kids_but l = 2 * nodes l.self.now

abbrev pub invariant-clone_kids_but-loop-i : goal.invariant-clone_kids_but-loop-i
invariant-clone_kids_but-loop-i l = l.kids.items ≡ without l.last (take l.i l.self-inside.kids.items)

abbrev pub invariant-try_clone-loop-last : goal.invariant-try_clone-loop-last
invariant-try_clone-loop-last l = IsWay l.self l.above.items l.node

abbrev pub invariant-try_clone-loop-node : goal.invariant-try_clone-loop-node
invariant-try_clone-loop-node l = IsWay l.self l.above.items l.copy

abbrev pub decreases-try_clone-loop-node : goal.decreases-try_clone-loop-node
decreases-try_clone-loop-node l = length l.above.items
