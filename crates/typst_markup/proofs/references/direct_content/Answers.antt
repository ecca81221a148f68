use Rattle.typst_markup.proofs.Cited.{sym, ◌∙◌, direct_content, does-next, does-gives, does-peek, does-pick, does-other}
use Rattle.typst_markup.proofs.references.direct_content.Goals as goal

pub returns-in_ok-read_content : goal.returns-in_ok-read_content
unfolding direct_content
returns-in_ok-read_content g c l h b = does-next (does-peek _) (does-pick (sym c.opens_directly.ensures ∙ c.if-opens_directly.true) (c.in_ok-read_content.ensures l h b))

pub returns-else-opens_directly : goal.returns-else-opens_directly
unfolding direct_content
returns-else-opens_directly g c l h b = does-next (does-peek _) (does-other (sym c.opens_directly.ensures ∙ c.if-opens_directly.false) does-gives)
