use Rattle.typst_server.proofs.Publishing.{empties}
use Rattle.typst_server.proofs.server.Server.lose.Goals as goal

pub returns-then-was_known-clause-emptied : goal.returns-then-was_known-clause-emptied
returns-then-was_known-clause-emptied c = empties c.args.uri.now c.lost.result c.lost.ensures.published
