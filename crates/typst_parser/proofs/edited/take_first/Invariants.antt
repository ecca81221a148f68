use Rattle.typst_parser.proofs.Cited.{◌≡◌, ◌+◌, IsBoundary, Speaks, TextReplacement, AreFirst, NonePassesOf}
use Rattle.typst_parser.proofs.Serving.{ServesAt}
use Rattle.typst_parser.proofs.edited.take_first.Given as goal

abbrev pub invariant-loop-candidate : goal.invariant-loop-candidate
invariant-loop-candidate g l = record {
  same : l.root ≡ l.fn.root;
  units : l.records.units ≡ l.fn.records.units;
  refused : (c : TextReplacement) → Speaks (g.C.Classes.classes l.asked.classes.now) c l.asked l.fn.root l.fn.records.units → AreFirst (g.C.Classes.classes l.asked.classes.now) c l.fn.root l.found
      → NonePassesOf (g.C.Classes.classes l.asked.classes.now) c l.fn.root l.from → NonePassesOf (g.C.Classes.classes l.asked.classes.now) c l.fn.root (l.from + l.candidate-index);
  serves : (c : TextReplacement) → Speaks (g.C.Classes.classes l.asked.classes.now) c l.asked l.fn.root l.fn.records.units → AreFirst (g.C.Classes.classes l.asked.classes.now) c l.fn.root l.found
      → ServesAt (g.C.Classes.classes l.asked.classes.now) c l.fn.root l.steps.items l.serving;
  between : IsBoundary l.root l.boundary;
}
