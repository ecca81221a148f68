use Rattle.typst_candidates.proofs.Cited.{◌≡◌, ◌-◌, ◌^◌, ◌<◌, ◌++◌, drop, entries_by, last_start}
use Rattle.typst_candidates.proofs.records.Records.add_all.Given as goal

abbrev pub invariant-loop-note : goal.invariant-loop-note
invariant-loop-note l = record {
  entries : l.self.units.entries ++ entries_by l.start (drop l.note-index l.notes) ≡ l.initial.self.units.entries ++ entries_by l.initial.start l.notes;
  back : l.self.units.back ≡ l.initial.self.units.back;
  last : last_start l.start (drop l.note-index l.notes) ≡ last_start l.initial.start l.notes;
  fits : l.start < 2 ^ 64 - 1;
}
