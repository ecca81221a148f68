use Rattle.std.proofs.Common.{arith}
use Rattle.typst_flat.proofs.Placing.{passes_on}
use Rattle.typst_flat.proofs.nodes.Search.seek.Goals as goal

pub returns-then-second-here-clause-passes : goal.returns-then-second-here-clause-passes
returns-then-second-here-clause-passes c = grind (arith, passes_on)

pub returns-clause-passes : goal.returns-clause-passes
returns-clause-passes c = grind (arith, passes_on)
