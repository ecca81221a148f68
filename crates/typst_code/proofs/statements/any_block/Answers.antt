use Rattle.typst_code.proofs.Cited.{same, does-pick, does-other, found, asks-yes, asks-no, any_block}
use Rattle.typst_kinds.specs.declared.kind.SyntaxKind.TheVariants as kind
use Rattle.typst_code.proofs.statements.any_block.Goals as goal

pub returns-then-eq : goal.returns-then-eq
unfolding any_block
returns-then-eq g c l h b = asks-yes (same kind.LeftBracket) c.current.ensures c.eq.ensures c.if-eq.true (c.in_ok-read_content.ensures l h b.outside)

pub returns-then-eq-2 : goal.returns-then-eq-2
unfolding any_block
returns-then-eq-2 g c l h b =
    asks-no (same kind.LeftBracket) c.current.ensures c.eq.ensures c.if-eq.false
    (does-pick (found (same kind.LeftBrace) c.current-2.ensures c.eq-2.ensures c.if-eq-2.true) (c.in_ok-read_code.ensures l h b))

pub returns : goal.returns
unfolding any_block
returns g c l h b =
    asks-no (same kind.LeftBracket) c.current.ensures c.eq.ensures c.if-eq.false
    (does-other (found (same kind.LeftBrace) c.current-2.ensures c.eq-2.ensures c.if-eq-2.false) (c.in_ok-expected.ensures l h))
