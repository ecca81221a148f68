use Rattle.typst_server.proofs.Publishing.{notices}
use Rattle.typst_server.proofs.diagnostics.publish.Goals as goal
use Rattle.typst_server.specs.Published.{AreProblemsOf}

pub returns : goal.returns
returns c =
    notices (AreProblemsOf c.args.errors c.args.document.now c.args.uri.now c.args.version) c.in_ok-problems_of.field-0 c.notice_of.result c.in_ok-problems_of.ensures c.notice_of.ensures
