use Rattle.typst_markup.proofs.Cited.{◌∙◌, ap, refl, sym, embedded_expr, is_bare, does-next, does-peek, does-pick, does-other}
use Rattle.typst_markup.specs.Starts.{begins_statement}
use Rattle.typst_markup.proofs.embedding.embedded_expr.Goals as goal

pub returns-then-is_bare : goal.returns-then-is_bare
unfolding embedded_expr
returns-then-is_bare g c l h =
    does-next (does-peek _) (does-pick (rw (sym c.current.ensures, sym c.had_trivia.ensures) (sym c.is_bare.ensures ∙ c.if-is_bare.true)) (c.in_ok-expected.ensures l h))

pub returns : goal.returns
unfolding embedded_expr
returns g c l h =
    does-next (does-peek _) (does-other (rw (sym c.current.ensures, sym c.had_trivia.ensures) (sym c.is_bare.ensures ∙ c.if-is_bare.false))
    (does-next (c.in_ok-deeper_code_expr.ensures l h) (rw (sym (c.begins_statement-is_statement.ensures ∙ ap begins_statement c.current-2.ensures)) (c.in_ok-embedded_end.ensures l h))))
