use Rattle.typst_kinds.proofs.Cited.{arith, hinted}
use Rattle.typst_kinds.proofs.LastElement.{at_last-set}
use Rattle.typst_kinds.proofs.own.push_last.Goals as goal

pub returns-clause-ok : goal.returns-clause-ok
returns-clause-ok c =
    rw (c.in_ok-push_hint.ensures.ok)
    (at_last-set (hinted c.args.hint) c.args.diagnostics.now.items _ c.index_mut-last.result.now (omega (arith, c.len-count.ensures, c.args.diagnostics.now.ok.0)) c.index_mut-last.ensures.value)
