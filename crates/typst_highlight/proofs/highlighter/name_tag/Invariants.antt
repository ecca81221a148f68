use Rattle.typst_highlight.proofs.Cited.{◌≡◌, ◌+◌, linked, name_tag}
use Rattle.typst_highlight.proofs.highlighter.name_tag.Given as goal

abbrev pub invariant-names : goal.invariant-names
invariant-names l = name_tag ((linked l.fn.name).number + 1) (linked l.fn.name) ≡ name_tag ((linked l.bearer).number + 1) (linked l.bearer)

abbrev pub decreases-names : goal.decreases-names
decreases-names l = (linked l.bearer).number
