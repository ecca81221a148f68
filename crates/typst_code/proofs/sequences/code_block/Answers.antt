use Rattle.typst_code.proofs.Cited.{◌∙◌, ap, same, does-next, does-gives, does-shape, does-scoped, loose-knows, rewrapped-loose, encloses, code_block, code_reading}
use Rattle.typst_kinds.specs.declared.kind.SyntaxKind.TheVariants as kind
use Rattle.typst_code.proofs.sequences.code_block.Goals as goal

pub returns : goal.returns
unfolding code_block
returns g c l h =
    let is = same kind.RightBrace in
    does-next (does-shape (encloses kind.CodeBlock) h.sound c.marker-from.ensures.few c.marker-from.ensures.marker (rewrapped-loose l c.in_ok-wrap_enclosed.ensures)
    (does-scoped (λ _. code_reading) loose-knows c.enter-outer.ensures.view c.enter-outer.ensures.outer
    (does-next (c.in_ok-eat.ensures l h) (does-next (c.in_ok-code.ensures l h) (c.in_ok-closed.ensures is (c.eq.ensures ∙ ap is c.current.ensures) l h)))
    c.leave_unasked.ensures)
    c.in_ok-wrap_enclosed.ensures) does-gives
