use Rattle.std.proofs.Common.{arith}
use Rattle.typst_tokens.proofs.Sights.{text-is}
use Rattle.typst_tokens.proofs.cursor.Cursor.line.Goals as goal

pub returns : goal.returns
returns c = grind (arith, text-is)
