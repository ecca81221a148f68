use Rattle.typst_markup.proofs.expressions.strong.Goals as goal

pub returns : goal.returns
returns g c = c.in_ok-delimited.ensures
