use Rattle.std.proofs.Common.{◌<◌, ◌≤◌}
use Rattle.typst_report.proofs.page.Page.next_cut.Given as goal

abbrev pub invariant-loop-finding : goal.invariant-loop-finding
invariant-loop-finding l = record {
  after : l.at < l.cut;
  within : l.cut ≤ l.end;
}
