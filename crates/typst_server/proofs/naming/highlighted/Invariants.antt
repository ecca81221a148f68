use Rattle.typst_server.proofs.Cited.{◌≡◌, take, AreAt, IsHighlightOf, map}
use Rattle.typst_server.proofs.naming.highlighted.Given as goal

abbrev pub invariant-loop-occurrence : goal.invariant-loop-occurrence
invariant-loop-occurrence l =
    record {
      document : l.extents ≡ l.document;
      located : AreAt (IsHighlightOf l.document) (map (λ o. o.range) (take l.occurrence-index l.occurrences)) l.highlighted.items;
    }
