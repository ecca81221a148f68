use Rattle.typst_candidates.proofs.Cited.{◌-◌, ◌≤◌, length, IsAnchor}
use Rattle.typst_candidates.proofs.Anchors.{Passed}
use Rattle.typst_candidates.proofs.records.Records.last_anchor.Given as goal

abbrev pub invariant-loop-entry : goal.invariant-loop-entry
invariant-loop-entry l = record {
  passed : Passed l.self.units.entries l.from l.place l.reach l.inside;
  anchor : IsAnchor l.self.units.entries l.anchor;
  order : l.from.number ≤ l.anchor.number;
}

abbrev pub decreases-loop-entry : goal.decreases-loop-entry
decreases-loop-entry l = length l.self.units.entries - l.place.number
