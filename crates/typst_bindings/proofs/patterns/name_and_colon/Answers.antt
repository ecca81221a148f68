use Rattle.typst_bindings.proofs.Cited.{◌∙◌, ap, same, does-next, does-gives, does-peek, does-value, name_and_colon}
use Rattle.typst_kinds.specs.declared.kind.SyntaxKind.TheVariants as kind
use Rattle.typst_bindings.proofs.patterns.name_and_colon.Goals as goal

pub returns : goal.returns
unfolding name_and_colon
returns g c l h = does-next (c.in_ok-eat.ensures l h) (does-next (does-peek _) (does-value (c.eq.ensures ∙ ap (same kind.Colon) c.current.ensures) does-gives))
