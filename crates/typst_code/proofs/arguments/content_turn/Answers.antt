use Rattle.typst_code.proofs.Cited.{◌∙◌, sym, does-next, does-gives, does-peek, does-pick, does-other, content_turn}
use Rattle.typst_code.proofs.arguments.content_turn.Goals as goal

pub returns-then-not-opens_directly : goal.returns-then-not-opens_directly
unfolding content_turn
returns-then-not-opens_directly g c l h b = does-next (does-peek _) (does-other (sym c.opens_directly.ensures ∙ c.if-not-opens_directly.true) does-gives)

pub returns : goal.returns
unfolding content_turn
returns g c l h b = does-next (does-peek _) (does-pick (sym c.opens_directly.ensures ∙ c.if-not-opens_directly.false) (does-next (c.in_ok-read_content.ensures l h b.outside) does-gives))
