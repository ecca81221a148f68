use Rattle.typst_bindings.proofs.Cited.{◌∙◌, ap, same}
use Rattle.typst_kinds.specs.declared.kind.SyntaxKind.TheVariants as kind
use Rattle.typst_bindings.proofs.bindings.equals.Goals as goal

pub returns-in_ok-expects-in-Function : goal.returns-in_ok-expects-in-Function
returns-in_ok-expects-in-Function g c l h =
    let is = same kind.Eq in
    rw c.in-Function.is (c.in_ok-expects-in-Function.ensures is (c.eq-comes.ensures ∙ ap is c.current.ensures) l h)

pub returns-in_ok-expects-in-Names : goal.returns-in_ok-expects-in-Names
returns-in_ok-expects-in-Names g c l h =
    let is = same kind.Eq in
    rw c.in-Names.is (c.in_ok-expects-in-Names.ensures is (c.eq-comes.ensures ∙ ap is c.current.ensures) l h)
