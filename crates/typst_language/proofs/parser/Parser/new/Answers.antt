use Rattle.std.proofs.Common.{arith}
use Rattle.typst_language.proofs.Trivia.{start-is}
use Rattle.typst_language.proofs.parser.Parser.new.Goals as goal

pub returns : goal.returns
returns c = grind (arith, start-is)
