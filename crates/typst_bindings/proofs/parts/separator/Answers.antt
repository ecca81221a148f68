use Rattle.typst_bindings.proofs.Cited.{◌∙◌, ap, same, is_terminator, does-gives, asks-yes, asks-no, separator}
use Rattle.typst_kinds.specs.declared.kind.SyntaxKind.TheVariants as kind
use Rattle.typst_bindings.proofs.parts.separator.Goals as goal

pub returns-then-is_terminator : goal.returns-then-is_terminator
unfolding separator
returns-then-is_terminator g c l h = asks-yes is_terminator c.current.ensures c.is_terminator.ensures c.if-is_terminator.true does-gives

pub returns : goal.returns
unfolding separator
returns g c l h =
    let is = same kind.Comma in
    asks-no is_terminator c.current.ensures c.is_terminator.ensures c.if-is_terminator.false (c.in_ok-expects.ensures is (c.eq.ensures ∙ ap is c.current-2.ensures) l h)
