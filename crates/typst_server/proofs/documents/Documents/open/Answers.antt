use Rattle.typst_server.proofs.Cited.{None, found}
use Rattle.typst_server.proofs.Held.{knows-unknown}
use Rattle.typst_server.proofs.documents.Documents.open.Goals as goal

pub returns-then-is_ok-clause-text : goal.returns-then-is_ok-clause-text
returns-then-is_ok-clause-text c = c.give.ensures.text None (knows-unknown c.args.encoding (found c.args.uri.now c.enter.new.self) None (c.enter.ensures.unknown c.lose.ensures.lost))
