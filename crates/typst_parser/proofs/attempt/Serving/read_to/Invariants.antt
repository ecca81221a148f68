use Rattle.typst_parser.proofs.Cited.{◌≡◌, Reading, HasReadSome}
use Rattle.typst_edits.specs.Bytes-of-language.{bytes_left}
use Rattle.typst_parser.proofs.attempt.Serving.read_to.Given as goal

abbrev pub invariant-pieces : goal.invariant-pieces
invariant-pieces g l = record {
  read : (r : Reading) → HasReadSome (g.C.Classes.classes l.classes) r l.end l.fn.self.any l.fn.self.reader → HasReadSome (g.C.Classes.classes l.classes) r l.end l.self.any l.self.reader;
  kept : (l.self.first_candidate ≡ l.fn.self.first_candidate) × (l.self.first_entry ≡ l.fn.self.first_entry) × (l.self.last ≡ l.fn.candidate.end);
}

abbrev pub decreases-pieces : goal.decreases-pieces
decreases-pieces g l = bytes_left l.self.reader.parser.place
