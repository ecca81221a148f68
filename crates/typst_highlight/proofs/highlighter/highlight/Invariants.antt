use Rattle.typst_highlight.proofs.Cited.{◌≡◌, ℕ, ◌+◌, ◌-◌, ◌≤◌, nodes, linked, tag_of, tag_within}
use Rattle.typst_highlight.proofs.highlighter.highlight.Given as goal

abbrev pub invariant-loop-bearer : goal.invariant-loop-bearer
invariant-loop-bearer l =
    (n : ℕ) × ((tag_of (linked l.fn.node) ≡ tag_within n (linked l.bearer)) × (nodes (linked l.bearer).root ≤ n + (linked l.bearer).number))

abbrev pub decreases-loop-bearer : goal.decreases-loop-bearer
decreases-loop-bearer l = nodes (linked l.bearer).root - (linked l.bearer).number
