use Rattle.typst_tree.proofs.Cited.{◌≡◌, length, marked, diagnosed}
use Rattle.typst_tree.proofs.preorder.Preorder.next_diagnosed.Given as goal

abbrev pub invariant-loop-visit : goal.invariant-loop-visit
invariant-loop-visit l = diagnosed l.self ≡ diagnosed l.initial.self

abbrev pub decreases-loop-visit : goal.decreases-loop-visit
decreases-loop-visit l = length (marked l.self)
