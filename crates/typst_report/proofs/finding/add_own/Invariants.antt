use Rattle.typst_report.proofs.Cited.{◌≡◌, ◌++◌, drop, map, as_reported, reported_of}
use Rattle.typst_report.proofs.finding.add_own.Given as goal

abbrev pub invariant-loop-diagnostic : goal.invariant-loop-diagnostic
invariant-loop-diagnostic l = map as_reported l.found.items ++ reported_of l.start l.end (drop l.diagnostic-index l.diagnostic-items) ≡ map as_reported l.fn.found.items ++ reported_of l.start l.end l.node.head.diagnostics
