use Rattle.typst_language.proofs.Cited.{◌≡◌, drop, least_of, reach_of}
use Rattle.typst_language.proofs.log.hull_of.Given as goal

abbrev pub invariant-loop-note : goal.invariant-loop-note
invariant-loop-note l = record {
  reach : reach_of l.hull.reach (drop l.note-index l.notes) ≡ reach_of l.fn.since.reach l.notes;
  least : least_of l.hull.least (drop l.note-index l.notes) ≡ least_of l.fn.since.least l.notes;
}
