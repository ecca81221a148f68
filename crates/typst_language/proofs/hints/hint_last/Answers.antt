use Rattle.std.proofs.Common.{◌-◌, arith}
use Rattle.std.proofs.lemmas.Bool.Decides.{nat_tests}
use Rattle.typst_language.proofs.LastNodes.{hinted-set, hint-error, hint-other}
use Rattle.typst_language.proofs.hints.hint_last.Goals as goal

pub returns-in_ok-hint-clause-hinted : goal.returns-in_ok-hint-clause-hinted
returns-in_ok-hint-clause-hinted c = grind (arith, nat_tests, hinted-set, hint-error)

pub returns-else-is_error-clause-hinted : goal.returns-else-is_error-clause-hinted
returns-else-is_error-clause-hinted c = grind (arith, nat_tests, hinted-set, hint-other)
