use Rattle.typst_highlight.proofs.Cited.{◌≡◌, linked, outermost}
use Rattle.typst_highlight.proofs.highlighter.outermost.Given as goal

abbrev pub invariant-loop-parent : goal.invariant-loop-parent
invariant-loop-parent l = outermost (linked l.fn.node).number (linked l.fn.node) ≡ outermost (linked l.outer).number (linked l.outer)

abbrev pub decreases-loop-parent : goal.decreases-loop-parent
decreases-loop-parent l = (linked l.outer).number
