use Rattle.typst_report.proofs.Cited.{◌≡◌, ◌+◌, ◌≤◌, drop, map, as_reported, error_count}
use Rattle.typst_report.proofs.report.count_errors.Given as goal

abbrev pub invariant-loop-finding : goal.invariant-loop-finding
invariant-loop-finding l = record {
  counted : l.errors + error_count (map as_reported (drop l.finding-index l.found)) ≡ error_count (map as_reported l.found);
  few : l.errors ≤ l.finding-index;
}
