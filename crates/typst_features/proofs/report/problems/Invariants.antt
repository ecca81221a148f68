use Rattle.typst_features.proofs.Cited.{◌≡◌, ◌++◌, length, map, diagnosed, reported, node, flat_map}
use Rattle.typst_features.proofs.VisitedProblems.{own_of}
use Rattle.typst_features.proofs.report.problems.Given as goal

abbrev pub invariant-loop-walk : goal.invariant-loop-walk
invariant-loop-walk l = map reported l.found.items ++ flat_map own_of (diagnosed l.walk) ≡ node 0 l.root

abbrev pub decreases-loop-walk : goal.decreases-loop-walk
decreases-loop-walk l = length (diagnosed l.walk)
