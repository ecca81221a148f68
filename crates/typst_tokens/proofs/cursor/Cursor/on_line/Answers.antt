use Rattle.std.proofs.Common.{arith}
use Rattle.typst_tokens.proofs.Lines.{line-kept}
use Rattle.typst_tokens.proofs.Sights.{offset-is, same-sight}
use Rattle.typst_tokens.proofs.cursor.Cursor.on_line.Goals as goal

pub invariant_of-result : goal.invariant_of-result
invariant_of-result c = grind (arith, offset-is, line-kept)

pub returns : goal.returns
returns c = grind (arith, offset-is, same-sight)
