use Rattle.std.proofs.Common.{arith}
use Rattle.typst_language.proofs.Words.{does-advises}
use Rattle.typst_language.proofs.parser.Parser.hint.Goals as goal

pub returns : goal.returns
returns c l = grind (arith, does-advises)
