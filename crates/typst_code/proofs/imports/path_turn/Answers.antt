use Rattle.typst_code.proofs.Cited.{◌∙◌, ap, same, does-next, does-gives, does-pick, does-other, path_turn}
use Rattle.typst_kinds.specs.declared.kind.SyntaxKind.TheVariants as kind
use Rattle.typst_code.proofs.imports.path_turn.Goals as goal

pub returns-in_ok-expect_identifier : goal.returns-in_ok-expect_identifier
unfolding path_turn
returns-in_ok-expect_identifier g c l h =
    let is = same kind.Dot in
    does-next (c.in_ok-dot.ensures is (c.eq.ensures ∙ ap is c.current.ensures) l h) (does-next (does-pick c.if-dot.true (c.in_ok-expect_identifier.ensures l h)) does-gives)

pub returns-else-dot : goal.returns-else-dot
unfolding path_turn
returns-else-dot g c l h =
    let is = same kind.Dot in
    does-next (c.in_ok-dot.ensures is (c.eq.ensures ∙ ap is c.current.ensures) l h) (does-next (does-other c.if-dot.false does-gives) does-gives)
