use Rattle.typst_code.proofs.Cited.{◌∙◌, ap, same, does-next, does-gives, does-node, at_newline, does-entered, import_parens, parens_shape}
use Rattle.typst_kinds.specs.declared.kind.SyntaxKind.TheVariants as kind
use Rattle.typst_language.specs.declared.reading.AtNewline.TheVariants as newline
use Rattle.typst_code.proofs.imports.import_parens.Goals as goal

pub returns : goal.returns
unfolding import_parens
returns g c l h =
    let closer = same kind.RightParen in
    does-next (does-node parens_shape h.sound c.marker-from.ensures.few c.marker-from.ensures.marker
    (does-entered (at_newline newline.Continue) c.enter_rule-outer.ensures.view
    (does-next (c.in_ok-eat.ensures l h) (does-next (c.in_ok-import_items.ensures l h) (c.in_ok-closed.ensures closer (c.eq.ensures ∙ ap closer c.current.ensures) l h)))
    c.enter_rule-outer.ensures.outer (c.in_ok-leave.ensures l h))
    c.in_ok-close_parens.ensures) does-gives
