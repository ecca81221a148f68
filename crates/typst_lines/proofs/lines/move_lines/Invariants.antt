use Rattle.typst_lines.proofs.Cited.{◌≡◌, ◌++◌, map, take, drop, moved_line, units_at}
use Rattle.typst_lines.proofs.lines.move_lines.Given as goal

abbrev pub invariant-loop-line : goal.invariant-loop-line
invariant-loop-line l = record {
  base : l.base ≡ units_at l.initial.lines;
  done : l.lines ≡ map (moved_line l.end l.new_end (units_at l.initial.lines) l.utf16_idx) (take l.line-index l.initial.lines) ++ drop l.line-index l.initial.lines;
}
