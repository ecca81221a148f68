use Rattle.typst_tree.proofs.Cited.{◌≡◌, find, is_sibling_after}
use Rattle.typst_tree.specs.Linked.{linked, left}
use Rattle.typst_tree.proofs.linked.LinkedNode.next_among.Given as goal

abbrev pub invariant-loop-child : goal.invariant-loop-child
invariant-loop-child l =
    (goal.iterator-loop-child).can_next l.child-iterator
    × (goal.iterator-loop-child).is_finite l.child-iterator
    × (find (is_sibling_after (linked l.self)) (left l.initial.child-iterator) ≡ find (is_sibling_after (linked l.self)) (left l.child-iterator))
