use Rattle.std.proofs.Common.{arith}
use Rattle.typst_tokens.proofs.Sights.{glanced, start-is}
use Rattle.typst_tokens.proofs.cursor.Cursor.last.Goals as goal

pub returns-clause-sight : goal.returns-clause-sight
returns-clause-sight c = grind (arith, start-is, glanced)
