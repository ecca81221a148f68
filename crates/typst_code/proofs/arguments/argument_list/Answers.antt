use Rattle.typst_code.proofs.Cited.{◌∙◌, ap, same, does-next, at_newline, does-entered, argument_list}
use Rattle.typst_kinds.specs.declared.kind.SyntaxKind.TheVariants as kind
use Rattle.typst_language.specs.declared.reading.AtNewline.TheVariants as newline
use Rattle.typst_code.proofs.arguments.argument_list.Goals as goal

pub returns : goal.returns
unfolding argument_list
returns g c l h =
    let closer = same kind.RightParen in
    does-entered (at_newline newline.Continue) c.enter_rule-outer.ensures.view
    (does-next (c.in_ok-eat.ensures l h) (does-next (rw c.new.ensures at c.in_ok-argument_turns.ensures l h) (c.in_ok-closed.ensures closer (c.eq.ensures ∙ ap closer c.current.ensures) l h)))
    c.enter_rule-outer.ensures.outer (c.in_ok-leave.ensures l h)
