use Rattle.typst_lines.proofs.Cited.{◌≡◌, ◌-◌, length, IsCharBoundary, lines_after, utf16_before}
use Rattle.typst_lines.proofs.lines.LinesFromIterator.next.Given as goal

abbrev pub invariant-loop-c : goal.invariant-loop-c
invariant-loop-c l =
    record {
      boundary : IsCharBoundary l.text l.byte_idx;
      left : lines_after l.text l.byte_idx ≡ lines_after l.fn.self.text.now l.fn.self.byte_idx;
      counted : l.utf16_idx ≡ utf16_before l.text l.byte_idx;
    }

abbrev pub decreases-loop-c : goal.decreases-loop-c
decreases-loop-c l = length l.text - l.byte_idx
