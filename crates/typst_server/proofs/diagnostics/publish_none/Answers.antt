use Rattle.typst_server.proofs.Publishing.{notices}
use Rattle.typst_server.proofs.diagnostics.publish_none.Goals as goal
use Rattle.typst_server.specs.Published.{AreNone}

pub returns : goal.returns
returns c = notices (AreNone c.args.uri.now) c.no_problems.result c.notice_of.result c.no_problems.ensures c.notice_of.ensures
