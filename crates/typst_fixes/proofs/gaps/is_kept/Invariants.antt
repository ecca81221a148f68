use Rattle.typst_fixes.proofs.Cited.{◌≡◌, ℕ, Option, None, Some, list_any, option_map, nodes, standing, Placed}
use Rattle.typst_fixes.specs.Gaps as spec
use Rattle.typst_fixes.proofs.WayToByte.{way}
use Rattle.typst_fixes.proofs.gaps.is_kept.Given as goal

-- how many nodes are left
abbrev pub left : Option Placed → ℕ
left None = 0
left (Some p) = nodes p.node.now

abbrev pub invariant-loop-within : goal.invariant-loop-within
invariant-loop-within l = list_any (spec.keeps l.closer l.byte) (way l.last (option_map standing l.within)) ≡ spec.is_kept l.closer l.byte (standing l.fn.node)

abbrev pub decreases-loop-within : goal.decreases-loop-within
decreases-loop-within l = left l.within
