use Rattle.std.proofs.Common.{rules, ◌≢◌, get_or, sym}
use Rattle.typst_cli.proofs.WordLemmas.{number-parsed}
use Rattle.typst_cli.proofs.request.number.Goals as goal

pub returns-in-Ok : goal.returns-in-Ok
returns-in-Ok c =
    let plain : get_or c.args.word.now 0 0 ≢ 43 = search rules in
    sym (rw c.in-Ok.is at (number-parsed c.args.word.now c.parse.result plain c.parse.ensures.value.0))

pub returns-in-Err : goal.returns-in-Err
returns-in-Err c =
    let plain : get_or c.args.word.now 0 0 ≢ 43 = search rules in
    sym (rw c.in-Err.is at (number-parsed c.args.word.now c.parse.result plain c.parse.ensures.value.0))
