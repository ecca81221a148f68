use Rattle.typst_markup.proofs.Cited.{ap, ◌∙◌, same, does-next, does-gives, does-node, encloses, math_arguments}
use Rattle.typst_kinds.specs.declared.kind.SyntaxKind.TheVariants as kind
use Rattle.typst_markup.proofs.math_arguments.math_arguments.Goals as goal

pub returns : goal.returns
unfolding math_arguments
returns g c l h =
    let closer = same kind.RightParen in
    does-next (does-node (encloses kind.MathArgs) h.sound c.marker-from.ensures.few c.marker-from.ensures.marker
    (does-next (c.in_ok-eat.ensures l h) (does-next (rw c.new.ensures at c.in_ok-math_argument_turns.ensures l h) (c.in_ok-closed.ensures closer (c.eq.ensures ∙ ap closer c.current.ensures) l h)))
    c.in_ok-wrap_enclosed.ensures) does-gives
