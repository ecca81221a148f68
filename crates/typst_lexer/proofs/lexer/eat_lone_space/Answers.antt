use Rattle.typst_lexer.proofs.Cited.{◌∙◌, ◌==◌, ap, sym, arith, Place, moved, passes, scout, Sight, saw, plain}
use Rattle.typst_kinds.specs.declared.kind.SyntaxKind.TheVariants as kind
use Rattle.typst_lexer.proofs.Spaces.{is-space, lone-space}
use Rattle.typst_lexer.proofs.lexer.eat_lone_space.Goals as goal

pub returns-clause-eaten : goal.returns-clause-eaten
returns-clause-eaten c = λ t k mode.
    let here = c.ahead-ahead.ensures.place in
    let space = ap (λ (z : Place). passes (λ d. d == 32) (scout 0 z)) (sym here) ∙ sym c.if-not-eat_if.ensures.taken in
    let next = sym c.in-Some-33-to-126.is ∙ c.peek.ensures ∙ ap (scout 0) (c.if-not-eat_if.ensures.moved ∙ ap (moved 1) here) in
    lone-space k mode c.args.s.now c.in-Some-33-to-126.field-0 space next (omega arith) (omega arith)
    ∙ ap (λ (w : Sight). (plain kind.Space, w)) (sym (c.peek-2.ensures.sight ∙ ap (saw 1) c.eat.ensures.sight))

pub returns-clause-space : goal.returns-clause-space
returns-clause-space c = grind (arith, is-space)
