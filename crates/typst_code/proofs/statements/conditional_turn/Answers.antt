use Rattle.typst_code.proofs.Cited.{◌∙◌, ap, same, does-next, does-gives, does-pick, does-other, conditional_turn}
use Rattle.typst_kinds.specs.declared.kind.SyntaxKind.TheVariants as kind
use Rattle.typst_code.proofs.statements.conditional_turn.Goals as goal

pub returns-then-not-other : goal.returns-then-not-other
unfolding conditional_turn
returns-then-not-other g c l h b =
    let is = same kind.Else in
    does-next (c.in_ok-eat.ensures l h) (does-next (c.in_ok-code_expression.ensures l h) (does-next (c.in_ok-any_block.ensures l h b)
    (does-next (c.in_ok-other.ensures is (c.eq.ensures ∙ ap is c.current.ensures) l h) (does-other c.if-not-other.true does-gives))))

pub returns : goal.returns
unfolding conditional_turn
returns g c l h b =
    let is = same kind.Else in
    does-next (c.in_ok-eat.ensures l h) (does-next (c.in_ok-code_expression.ensures l h) (does-next (c.in_ok-any_block.ensures l h b)
    (does-next (c.in_ok-other.ensures is (c.eq.ensures ∙ ap is c.current.ensures) l h) (does-pick c.if-not-other.false (c.in_ok-other_branch.ensures l h b)))))
