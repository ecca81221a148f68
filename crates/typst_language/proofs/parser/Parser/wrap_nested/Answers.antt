use Rattle.std.proofs.Common.{arith}
use Rattle.typst_language.proofs.Nests.{each-popped}
use Rattle.typst_language.proofs.parser.Parser.wrap_nested.Goals as goal

pub froms-preserved : goal.froms-preserved
froms-preserved c = grind (arith, each-popped)
