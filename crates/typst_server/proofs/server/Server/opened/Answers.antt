use Rattle.typst_server.proofs.Held.{warned_open}
use Rattle.typst_server.proofs.server.Server.opened.Goals as goal
use Rattle.typst_server.specs.Left.{loss_of}

pub returns-clause-warned : goal.returns-clause-warned
returns-clause-warned c = warned_open (loss_of c.news_of.result) c.args.uri.now c.args.self.now.documents c.take_text.new.self.documents c.take_text.ensures.others c.news_of.ensures.warned
