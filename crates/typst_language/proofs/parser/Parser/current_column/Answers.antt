use Rattle.std.proofs.Common.{arith}
use Rattle.typst_language.proofs.Ready.{column-is}
use Rattle.typst_language.proofs.parser.Parser.current_column.Goals as goal

pub returns : goal.returns
returns c l = grind (arith, column-is)
