use Rattle.typst_server.proofs.Cited.{arith, string_bytes, methods, named, OutOfMemory}
use Rattle.typst_protocol.specs.Parameters as parameters
use Rattle.typst_server.proofs.Keeping.{keeps_refused}
use Rattle.typst_server.proofs.Responses.{responds-memory, tells-memory}
use Rattle.typst_server.proofs.server.Server.answer_request.Goals as goal

pub returns-clause-reply : goal.returns-clause-reply
returns-clause-reply c = grind (arith, responds-memory, tells-memory)

pub returns-clause-tokens : goal.returns-clause-tokens
returns-clause-tokens c =
    keeps_refused c.args.self.now c.respond.new.self (named methods c.args.request.method.now) (parameters.seen c.args.request.params) c.args.request.id (string_bytes c.in-Ok.refused) OutOfMemory c.in-Err.ensures.tokens c.in-Ok.ensures
