use Rattle.typst_server.proofs.Cited.{◌≡◌, take, AreAt, IsLocationOf, map}
use Rattle.typst_server.proofs.naming.located.Given as goal

abbrev pub invariant-loop-occurrence : goal.invariant-loop-occurrence
invariant-loop-occurrence l =
    record {
      document : l.extents ≡ l.document;
      located : AreAt (IsLocationOf l.document l.uri) (map (λ o. o.range) (take l.occurrence-index l.occurrences)) l.located.items;
    }
