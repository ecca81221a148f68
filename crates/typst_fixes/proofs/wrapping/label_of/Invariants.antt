use Rattle.typst_fixes.proofs.Cited.{◌≡◌, ℕ, Option, None, Some, option_map, nodes, standing, Placed}
use Rattle.typst_fixes.specs.Wrapped as spec
use Rattle.typst_fixes.proofs.WayToByte.{way}
use Rattle.typst_fixes.proofs.wrapping.label_of.Given as goal

-- how many nodes are left
abbrev pub left : Option Placed → ℕ
left None = 0
left (Some p) = nodes p.node.now

abbrev pub invariant-loop-within : goal.invariant-loop-within
invariant-loop-within l = spec.first_label (way l.first (option_map standing l.within)) ≡ spec.label_of (standing l.fn.node)

abbrev pub decreases-loop-within : goal.decreases-loop-within
decreases-loop-within l = left l.within
