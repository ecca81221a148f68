use Rattle.typst_markup.proofs.Cited.{◌∙◌, ap, same, encloses, content_block, markup_reading, does-next, does-gives, does-shape, does-scoped, loose-knows, rewrapped-loose}
use Rattle.typst_kinds.specs.declared.kind.SyntaxKind.TheVariants as kind
use Rattle.typst_markup.proofs.references.content_block.Goals as goal

pub returns : goal.returns
unfolding content_block
returns g c l h =
    let is = same kind.RightBracket in
    does-next (does-shape (encloses kind.ContentBlock) h.sound c.marker-from.ensures.few c.marker-from.ensures.marker (rewrapped-loose l c.in_ok-wrap_enclosed.ensures)
    (does-scoped (λ _. markup_reading) loose-knows c.enter-outer.ensures.view c.enter-outer.ensures.outer
    (does-next (c.in_ok-pass.ensures l h) (does-next (c.in_ok-run_with_trivia.ensures l h) (c.in_ok-closed.ensures is (c.eq.ensures ∙ ap is c.current.ensures) l h)))
    c.leave_unasked.ensures)
    c.in_ok-wrap_enclosed.ensures) does-gives
