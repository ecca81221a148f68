use Rattle.typst_code.proofs.Cited.{◌∙◌, ap, does-next, does-gives, does-peek, does-value, as_group, after_group}
use Rattle.typst_code.proofs.parens.as_group.Goals as goal

pub returns : goal.returns
unfolding as_group
returns g c l h = does-next (c.in_ok-kind.ensures l h) (does-next (does-peek _) (does-value (c.after_group.ensures ∙ ap (after_group c.in_ok-kind.kind) c.current.ensures) does-gives))
