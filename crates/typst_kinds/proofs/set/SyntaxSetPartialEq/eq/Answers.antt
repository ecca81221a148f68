use Rattle.std.proofs.Common.{arith}
use Rattle.std.proofs.lemmas.Grind.{common_steps}
use Rattle.typst_kinds.proofs.SameKinds.{same_kinds-exact}
use Rattle.typst_kinds.proofs.set.SyntaxSetPartialEq.eq.Goals as goal

pub returns-then-second-fifth-clause-kinds : goal.returns-then-second-fifth-clause-kinds
returns-then-second-fifth-clause-kinds c =
    same_kinds-exact _ _ _ (record { first = omega arith; second = omega arith }) (record { first = omega arith; second = omega arith }) (grind (arith, common_steps))

pub returns-else-second-fifth-clause-kinds : goal.returns-else-second-fifth-clause-kinds
returns-else-second-fifth-clause-kinds c =
    same_kinds-exact _ _ _ (record { first = omega arith; second = omega arith }) (record { first = omega arith; second = omega arith }) (grind (arith, common_steps))
