use Rattle.typst_highlight.proofs.Cited.{◌≡◌, ◌+◌, ◌*◌, reverse, count, forest, passed_row, passed_rows}
use Rattle.typst_highlight.proofs.Returning.{row_returns}
use Rattle.typst_highlight.proofs.walk.passed_row.Given as goal

abbrev pub invariant-nodes : goal.invariant-nodes
invariant-nodes l = passed_rows (reverse l.waiting.items) (passed_row l.row.context (forest l.row.nodes.now)) ≡ passed_row l.fn.context (forest l.fn.nodes)

abbrev pub decreases-nodes : goal.decreases-nodes
decreases-nodes l = 2 * count (forest l.row.nodes.now) + row_returns (reverse l.waiting.items)
