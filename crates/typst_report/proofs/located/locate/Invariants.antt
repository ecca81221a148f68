use Rattle.typst_report.proofs.Cited.{IfSome, take, map, as_reported, ArePlaced, as_placed, IsPlace}
use Rattle.typst_report.proofs.located.locate.Given as goal

abbrev pub invariant-loop-finding : goal.invariant-loop-finding
invariant-loop-finding l = record {
  placed : ArePlaced l.lines (map as_reported (take l.finding-index l.found)) (map as_placed l.all.items);
  last_start : IfSome l.last_start (IsPlace l.lines);
  last_end : IfSome l.last_end (IsPlace l.lines);
}
