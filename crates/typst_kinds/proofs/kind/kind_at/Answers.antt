use Rattle.typst_kinds.proofs.Cited.{ap, sym, ◌∙◌, option_map}
use Rattle.typst_kinds.proofs.Places.{lent}
use Rattle.typst_kinds.proofs.kind.kind_at.Goals as goal

pub returns-in_err-kind : goal.returns-in_err-kind
returns-in_err-kind c = λ ks e. c.from_residual.ensures ∙ (sym (ap (option_map (λ row. row.now.0)) c.in_err-kind.was) ∙ lent c.args.rows.now c.args.place c.get.result ks c.get.ensures.lookup e)

pub returns : goal.returns
returns c = λ ks e. sym (ap (option_map (λ row. row.now.0)) c.in_ok-kind.was) ∙ lent c.args.rows.now c.args.place c.get.result ks c.get.ensures.lookup e
