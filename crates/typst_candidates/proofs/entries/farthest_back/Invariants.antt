use Rattle.typst_candidates.proofs.Cited.{◌≤◌, ◌^◌, drop, take, GoBack}
use Rattle.typst_candidates.proofs.entries.farthest_back.Given as goal

abbrev pub invariant-loop-entry : goal.invariant-loop-entry
invariant-loop-entry l = record {
  least : 2 ^ 4 ≤ l.most;
  all : GoBack l.most (take l.entry-index (drop l.from l.entries));
}
