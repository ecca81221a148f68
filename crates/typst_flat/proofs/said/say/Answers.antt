use Rattle.typst_flat.proofs.Cited.{◌≡◌, ◌++◌, ◌∷◌, [], ap, ◌∙◌, arith, filled, Saying, remarks_from}
use Rattle.typst_flat.proofs.Sayings.{one_more, remark_fits, remark_full}
use Rattle.typst_flat.proofs.said.say.Goals as goal
use Rattle.typst_flat.proofs.said.say.Goals.{then-said-remarks, else-said-remarks}

pub returns : goal.returns
returns c = λ says rs ms w.
    let s : Saying = record { node = c.args.about.node; start = c.args.about.start; end = c.args.about.end; severity = c.args.about.severity; message = c.args.message.now } in
    let put : c.if-said-remarks.remarks ≡ filled (remarks_from 0 (says ++ s ∷ [])) rs =
    elim c.if-said-remarks.branch [
      | then-said-remarks v ↦
          v.remarks-is ∙ remark_fits says s c.args.said c.args.remarks.now rs c.args.messages.now ms _ w
          (λ i. record { node = v.narrow.ensures i; start = v.narrow-then-said-remarks.ensures i; end = v.narrow-then-said-remarks-2.ensures i; message = v.narrow-then-said-remarks-3.ensures i; message_len = v.narrow-then-said-remarks-4.ensures i; severity = c.args.about.severity })
          (omega (arith, v.if-said-remarks.true)) (omega (arith, v.if-said-remarks.true))
      | else-said-remarks v ↦ v.remarks-is ∙ remark_full says s c.args.said c.args.remarks.now rs c.args.messages.now ms w (omega (arith, v.if-said-remarks.false))
    ] in
    one_more says s c.args.said _ c.args.remarks.now rs c.if-said-remarks.remarks c.args.messages.now ms c.put.new.room w c.saturating_add.ensures c.saturating_add-2.ensures put
    (λ before old e f. c.put.ensures before old e f ∙ ap (λ x. filled (before ++ x) old) c.as_bytes.ensures.value)
