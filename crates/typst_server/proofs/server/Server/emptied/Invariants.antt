use Rattle.typst_server.proofs.Cited.{All, string_bytes, Empties}
use Rattle.typst_server.proofs.server.Server.emptied.Given as goal

abbrev pub invariant-loop-entry : goal.invariant-loop-entry
invariant-loop-entry l = All (λ text. Empties (string_bytes text)) l.published.items
