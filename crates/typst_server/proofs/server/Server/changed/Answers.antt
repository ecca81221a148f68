use Rattle.typst_server.proofs.Held.{warned_by}
use Rattle.typst_server.proofs.server.Server.changed.Goals as goal
use Rattle.typst_server.specs.Left.{loss_of}

pub returns-clause-warned : goal.returns-clause-warned
returns-clause-warned c =
    warned_by (loss_of c.news_of.result) c.args.uri.now c.args.self.now.documents c.take_changes.new.self.documents c.knows-was_known.result c.knows-was_known.ensures c.take_changes.ensures.others c.news_of.ensures.warned
