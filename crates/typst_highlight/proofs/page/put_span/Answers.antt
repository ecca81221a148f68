use Rattle.std.proofs.Common.{arith}
use Rattle.typst_highlight.proofs.Pages.{span_put}
use Rattle.typst_highlight.proofs.page.put_span.Goals as goal

pub returns-in-Some-clause-written : goal.returns-in-Some-clause-written
returns-in-Some-clause-written c = grind (arith, span_put)
