use Rattle.typst_code.proofs.Cited.{◌∙◌, ap, same, does-gives}
use Rattle.typst_kinds.specs.declared.kind.SyntaxKind.TheVariants as kind
use Rattle.typst_code.proofs.parens.sign.Goals as goal

pub returns-in_ok-expects-in-Eq : goal.returns-in_ok-expects-in-Eq
returns-in_ok-expects-in-Eq g c l h =
    let is = same kind.Eq in
    rw c.in-Eq.is (c.in_ok-expects-in-Eq.ensures is (c.eq-in-Eq.ensures ∙ ap is c.current-in-Eq.ensures) l h)

pub returns-in-Nothing : goal.returns-in-Nothing
returns-in-Nothing g c l h = rw c.in-Nothing.is does-gives
