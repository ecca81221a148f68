use Rattle.typst_report.proofs.Cited.{◌≡◌, ◌++◌, length, map, as_reported, reported, diagnosed}
use Rattle.typst_report.proofs.VisitLemmas.{each, reported_at}
use Rattle.typst_report.proofs.finding.findings.Given as goal

abbrev pub decreases-loop-walk : goal.decreases-loop-walk
decreases-loop-walk l = length (diagnosed l.walk)

abbrev pub invariant-loop-walk : goal.invariant-loop-walk
invariant-loop-walk l = map as_reported l.found.items ++ each reported_at (diagnosed l.walk) ≡ reported l.root
