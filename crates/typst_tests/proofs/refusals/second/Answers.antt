use Rattle.std.proofs.Common.{refl}
use Rattle.std.proofs.lemmas.Str.{chars-nil}
use Rattle.typst_tests.proofs.refusals.second.Goals as goal

-- no unit stands before the start
pub new-requires-clause-units : goal.new-requires-clause-units
new-requires-clause-units c = rw chars-nil refl
