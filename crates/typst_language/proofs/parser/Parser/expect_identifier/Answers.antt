use Rattle.typst_language.proofs.Cited.{ap, sym, ◌∙◌, is_keyword, same, View, expect_identifier}
use Rattle.typst_kinds.specs.declared.kind.SyntaxKind.TheVariants as kind
use Rattle.typst_language.proofs.Steps.{does-next, does-gives, does-peek, does-pick, does-other}
use Rattle.typst_language.proofs.parser.Parser.expect_identifier.Goals as goal

pub returns-then-is_keyword : goal.returns-then-is_keyword
unfolding expect_identifier
returns-then-is_keyword g c l h = does-next (does-peek _) (does-pick (ap (λ (v : View). is_keyword v.hand.kind) (sym c.self.view_is) ∙ sym c.is_keyword.ensures ∙ c.if-is_keyword.true) (does-next (c.in_ok-eat_wanted.ensures l h) does-gives))

pub returns : goal.returns
unfolding expect_identifier
returns g c l h =
    does-next (does-peek _) (does-other (ap (λ (v : View). is_keyword v.hand.kind) (sym c.self.view_is) ∙ sym c.is_keyword.ensures ∙ c.if-is_keyword.false)
    (c.in_ok-expects.ensures (same kind.Ident) (c.eq-is.ensures ∙ ap (λ (v : View). same kind.Ident v.hand.kind) c.self.view_is) l h))
