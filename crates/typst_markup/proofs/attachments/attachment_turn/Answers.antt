use Rattle.typst_markup.proofs.Cited.{ap, sym, ◌∙◌, does-next, does-gives, asks-yes, asks-no, attachment_turn, is_in, without}
use Rattle.typst_markup.proofs.attachments.attachment_turn.Goals as goal

pub returns-then-not-is_in : goal.returns-then-not-is_in
unfolding attachment_turn
returns-then-not-is_in g c l h = asks-no (is_in c.args.signs) c.current-kind.ensures c.is_in.ensures c.if-not-is_in.true does-gives

pub returns : goal.returns
unfolding attachment_turn
returns g c l h =
    asks-yes (is_in c.args.signs) c.current-kind.ensures c.is_in.ensures c.if-not-is_in.false
    (rw (sym (c.without-others.ensures ∙ ap (λ k. without k c.args.signs) c.current-kind.ensures)) (does-next (c.in_ok-eat.ensures l h) (does-next (c.in_ok-operand.ensures l h) does-gives)))
