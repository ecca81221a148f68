use Rattle.std.proofs.Common.{arith}
use Rattle.typst_lines.proofs.PlaceLemmas.{chars-before, front-range}
use Rattle.typst_lines.proofs.scanner.Scanner.before.Goals as goal

pub returns-clause-characters : goal.returns-clause-characters
returns-clause-characters c = grind (arith, front-range, chars-before)
