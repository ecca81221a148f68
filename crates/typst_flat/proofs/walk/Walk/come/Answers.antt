use Rattle.std.proofs.Common.{arith}
use Rattle.typst_flat.proofs.Steps.{root_taken}
use Rattle.typst_flat.proofs.walk.Walk.come.Goals as goal

pub returns-then-self-eq0-clause-takes : goal.returns-then-self-eq0-clause-takes
returns-then-self-eq0-clause-takes c = grind (arith, root_taken)
