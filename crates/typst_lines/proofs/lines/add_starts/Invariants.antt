use Rattle.typst_lines.proofs.Cited.{◌≡◌, ◌++◌, List, lines_after, lines_left, UpTo, Line}
use Rattle.typst_lines.proofs.lines.add_starts.Given as goal

abbrev pub invariant-loop-line : goal.invariant-loop-line
invariant-loop-line l =
    (fresh : List Line) × (l.lines.items ≡ l.fn.lines.items ++ fresh) × (lines_after l.text l.fn.first.byte_idx ≡ fresh ++ lines_left l.line-iterator) × UpTo l.end fresh
