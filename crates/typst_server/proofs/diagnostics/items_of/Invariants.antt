use Rattle.typst_server.proofs.Cited.{◌≡◌, take, ArePublished, reported, map}
use Rattle.typst_server.proofs.diagnostics.items_of.Given as goal

abbrev pub invariant-loop-problem : goal.invariant-loop-problem
invariant-loop-problem l =
    record {
      document : l.extents ≡ l.document;
      published : ArePublished l.document (map reported (take l.problem-index l.problem-items)) l.items.items;
    }
