use Rattle.typst_language.proofs.Cited.{arith, offset-is}
use Rattle.typst_language.proofs.Ready.{noted-here}
use Rattle.typst_language.proofs.parser.Parser.note_here.Goals as goal

pub returns : goal.returns
returns g c = grind (arith, noted-here, offset-is)
