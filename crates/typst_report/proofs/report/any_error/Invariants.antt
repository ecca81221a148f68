use Rattle.typst_report.proofs.Cited.{◌≡◌, drop, map, as_reported, any_error}
use Rattle.typst_report.proofs.report.any_error.Given as goal

abbrev pub invariant-loop-finding : goal.invariant-loop-finding
invariant-loop-finding l = any_error (map as_reported (drop l.finding-index l.found)) ≡ any_error (map as_reported l.found)
