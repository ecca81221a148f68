use Rattle.std.proofs.Common.{arith}
use Rattle.typst_parser.proofs.Answered.{error-is}
use Rattle.typst_parser.proofs.source.Source.detached.Goals as goal

pub returns-in_err-new-in-Some-clause-refused : goal.returns-in_err-new-in-Some-clause-refused
returns-in_err-new-in-Some-clause-refused g c = grind (arith, error-is)

pub returns-clause-made : goal.returns-clause-made
returns-clause-made g c = grind arith

pub returns-clause-root : goal.returns-clause-root
returns-clause-root g c = rw c.in-Some.ensures.1 at c.in_ok-new-in-Some.ensures.root
