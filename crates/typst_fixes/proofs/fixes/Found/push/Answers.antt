use Rattle.std.proofs.Common.{arith}
use Rattle.typst_fixes.proofs.FixesFound.{pushed}
use Rattle.typst_fixes.proofs.fixes.Found.push.Goals as goal

pub returns : goal.returns
returns c = grind (arith, pushed)
