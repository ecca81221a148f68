use Rattle.typst_code.proofs.Cited.{◌∙◌, ap, same, does-next, does-gives, does-pick, does-other, renaming}
use Rattle.typst_kinds.specs.declared.kind.SyntaxKind.TheVariants as kind
use Rattle.typst_code.proofs.imports.renaming.Goals as goal

pub returns-in_ok-expect_identifier : goal.returns-in_ok-expect_identifier
unfolding renaming
returns-in_ok-expect_identifier g c l h =
    let is = same kind.As in
    does-next (c.in_ok-renamed.ensures is (c.eq.ensures ∙ ap is c.current.ensures) l h) (does-next (does-pick c.if-renamed.true (c.in_ok-expect_identifier.ensures l h)) does-gives)

pub returns-else-renamed : goal.returns-else-renamed
unfolding renaming
returns-else-renamed g c l h =
    let is = same kind.As in
    does-next (c.in_ok-renamed.ensures is (c.eq.ensures ∙ ap is c.current.ensures) l h) (does-next (does-other c.if-renamed.false does-gives) does-gives)
