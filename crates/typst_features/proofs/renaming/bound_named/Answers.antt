use Rattle.std.proofs.Common.{arith}
use Rattle.typst_features.proofs.NamedThere.{lent}
use Rattle.typst_features.proofs.renaming.bound_named.Goals as goal

pub returns-in-Some : goal.returns-in-Some
returns-in-Some c = grind (arith, lent)

pub returns-in-None : goal.returns-in-None
returns-in-None c = grind (arith, lent)
