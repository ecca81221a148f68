use Rattle.std.proofs.Common.{None}
use Rattle.typst_server.proofs.Publishing.{told_news}
use Rattle.typst_server.proofs.server.Server.closed.Goals as goal

pub returns-then-close-clause-news : goal.returns-then-close-clause-news
returns-then-close-clause-news c = told_news c.args.self.now.standing.errors None c.args.uri.now None c.publish_none.result c.told.result c.publish_none.ensures c.told.ensures.told
