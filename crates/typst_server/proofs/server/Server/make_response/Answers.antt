use Rattle.typst_server.proofs.Cited.{arith, methods, named, allowed}
use Rattle.typst_protocol.specs.Parameters as parameters
use Rattle.typst_server.proofs.Keeping.{keeps_made}
use Rattle.typst_server.proofs.Responses.{responds-refused, responds_made}
use Rattle.typst_server.proofs.server.Server.make_response.Goals as goal

pub returns-in-Err-clause-response : goal.returns-in-Err-clause-response
returns-in-Err-clause-response c =
    responds-refused c.failure.result (allowed c.args.self.now.standing (named methods c.args.method.now) (parameters.seen c.args.params)) c.args.self.now.standing c.in-Err.refusal c.args.id.now c.in-Err.ensures.leads
    c.failure.ensures

pub returns-clause-response : goal.returns-clause-response
returns-clause-response c = grind (arith, responds_made)

pub returns-clause-tokens : goal.returns-clause-tokens
returns-clause-tokens c = grind (arith, keeps_made)
