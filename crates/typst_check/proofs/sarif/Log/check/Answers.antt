use Rattle.std.proofs.Common.{◌≡◌, arith}
use Rattle.typst_check.proofs.OutcomeLemmas.{fails_so}
use Rattle.typst_check.proofs.sarif.Log.check.Goals as goal

pub returns-clause-clean : goal.returns-clause-clean
returns-clause-clean g c = λ zero.
    let clean : c.check-status.result ≡ 0 = grind arith in
    fails_so _ _ _ _ _ _ (c.check-status.ensures.clean clean)

pub returns-clause-erroneous : goal.returns-clause-erroneous
returns-clause-erroneous g c = λ one.
    let erroneous : c.check-status.result ≡ 1 = grind arith in
    fails_so _ _ _ _ _ _ (c.check-status.ensures.erroneous erroneous)
