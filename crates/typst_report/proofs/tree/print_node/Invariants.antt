use Rattle.typst_report.proofs.Cited.{◌≡◌, ◌++◌, length, string_bytes, All, node_lines}
use Rattle.typst_report.proofs.RowLemmas.{Fits, indented, left_lines, steps}
use Rattle.typst_report.proofs.tree.print_node.Given as goal

abbrev pub decreases-loop-row : goal.decreases-loop-row
decreases-loop-row l = steps l.rows.items

abbrev pub invariant-loop-row : goal.invariant-loop-row
invariant-loop-row l = record {
  written : string_bytes l.printed ++ left_lines l.indent l.rows.items ≡ string_bytes l.fn.printed ++ node_lines l.indent l.fn.start l.node;
  deeper : string_bytes l.deeper ≡ indented l.indent (length l.rows.items);
  fit : All Fits l.rows.items;
}
