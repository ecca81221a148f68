use Rattle.typst_features.proofs.Cited.{ℕ, nodes, Placed, Option, None, Some}
use Rattle.typst_features.proofs.hovering.language_at.Given as goal

-- how many nodes are left
abbrev pub left : Option Placed → ℕ
left None = 0
left (Some p) = nodes p.node.now

abbrev pub decreases-loop-around : goal.decreases-loop-around
decreases-loop-around l = left l.around
