use Rattle.std.proofs.Common.{sym, ◌∙◌}
use Rattle.typst_kinds.proofs.Sameness.{same-is, is-same}
use Rattle.typst_kinds.proofs.kind.SyntaxKind.same.Goals as goal

pub returns-clause-exact : goal.returns-clause-exact
returns-clause-exact c =
    (λ h. same-is _ _ (sym c.eq.ensures ∙ h), λ h. c.eq.ensures ∙ is-same _ _ h)
