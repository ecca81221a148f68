use Rattle.typst_code.proofs.Cited.{sym, ap, ◌∙◌, does-next, does-peek, does-gives, code_tail_turn, code_tail, as_at_hand}
use Rattle.typst_code.specs.declared.heads.CodeTail.TheVariants as tail
use Rattle.typst_code.proofs.Begins.{at-tail}
use Rattle.typst_code.proofs.expressions.code_tail_turn.Goals as goal

pub returns-in_ok-call_tail-in-Call-clause-means : goal.returns-in_ok-call_tail-in-Call-clause-means
unfolding code_tail_turn
returns-in_ok-call_tail-in-Call-clause-means g c l h b = does-next (does-peek _) (at-tail _ tail.Call (rw (sym c.current.ensures, sym c.had_trivia.ensures) (sym c.code_tail.ensures ∙ c.in-Call.is)) (c.in_ok-call_tail-in-Call.ensures.means l h b))

pub returns-in_ok-field-in-Field-clause-means : goal.returns-in_ok-field-in-Field-clause-means
unfolding code_tail_turn
returns-in_ok-field-in-Field-clause-means g c l h b = does-next (does-peek _) (at-tail _ tail.Field (rw (sym c.current.ensures, sym c.had_trivia.ensures) (sym c.code_tail.ensures ∙ c.in-Field.is)) (c.in_ok-field-in-Field.ensures.means l h))

pub returns-in_ok-direct_field-in-DirectField-clause-means : goal.returns-in_ok-direct_field-in-DirectField-clause-means
unfolding code_tail_turn
returns-in_ok-direct_field-in-DirectField-clause-means g c l h b = does-next (does-peek _) (at-tail _ tail.DirectField (rw (sym c.current.ensures, sym c.had_trivia.ensures) (sym c.code_tail.ensures ∙ c.in-DirectField.is)) (c.in_ok-direct_field-in-DirectField.ensures.means l h))

pub returns-in_ok-not_in-in-NotIn-clause-means : goal.returns-in_ok-not_in-in-NotIn-clause-means
unfolding code_tail_turn
returns-in_ok-not_in-in-NotIn-clause-means g c l h b = does-next (does-peek _) (at-tail _ tail.NotIn (rw (sym c.current.ensures, sym c.had_trivia.ensures) (sym c.code_tail.ensures ∙ c.in-NotIn.is)) (c.in_ok-not_in-in-NotIn.ensures.means l h))

pub returns-in_ok-binary_expr-in-Binary-clause-means : goal.returns-in_ok-binary_expr-in-Binary-clause-means
unfolding code_tail_turn
returns-in_ok-binary_expr-in-Binary-clause-means g c l h b = does-next (does-peek _) (at-tail _ (tail.Binary _) (rw (sym c.current.ensures, sym c.had_trivia.ensures) (sym c.code_tail.ensures ∙ c.in-Binary.is)) (c.in_ok-binary_expr-in-Binary.ensures.means l h))

pub returns-in-Nothing-clause-means : goal.returns-in-Nothing-clause-means
unfolding code_tail_turn
returns-in-Nothing-clause-means g c l h b =
    let nothing = ap (λ k. code_tail c.args.atomic c.args.least k (as_at_hand c.args.p.now.hand).has_trivia) (sym c.current.ensures)
    ∙ ap (code_tail c.args.atomic c.args.least c.current.result) (sym c.had_trivia.ensures)
    ∙ sym c.code_tail.ensures
    ∙ c.in-Nothing.is in
    does-next (does-peek _) (at-tail _ tail.Nothing nothing does-gives)
