use Rattle.typst_kinds.specs.declared.kind.SyntaxKind.TheVariants as kind
use Rattle.typst_code.proofs.Cited.{does-next, does-gives, does-node, encloses, arguments}
use Rattle.typst_code.proofs.arguments.arguments.Goals as goal

pub returns : goal.returns
unfolding arguments
returns g c l h b =
    does-next (c.in_ok-begin_arguments.ensures l h)
    (does-next (does-node (encloses kind.Args) h.sound c.marker-from.ensures.few c.marker-from.ensures.marker
    (does-next (c.in_ok-closed.ensures l h) (does-next (c.in_ok-content_turns.ensures l h b) does-gives)) c.in_ok-wrap_enclosed.ensures) does-gives)
