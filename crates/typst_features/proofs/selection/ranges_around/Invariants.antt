use Rattle.typst_features.proofs.Cited.{◌≡◌, ◌++◌, ℕ, none, more, nodes, around_it, HoldsIt, Placed, around, different, Option, None, Some}
use Rattle.typst_features.proofs.selection.ranges_around.Given as goal

-- how many nodes are left
abbrev pub left : Option Placed → ℕ
left None = 0
left (Some p) = nodes p.node.now

abbrev pub decreases-loop-around : goal.decreases-loop-around
decreases-loop-around l = left l.around

abbrev pub invariant-loop-around : goal.invariant-loop-around
invariant-loop-around l = record {
  found : l.ranges.items ++ different (around_it l.byte l.around) ≡ different (around l.byte 0 (more l.root.head l.root.kids none));
  holds : HoldsIt l.byte l.around;
}
