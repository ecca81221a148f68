use Rattle.typst_positions.proofs.Cited.{◌≡◌, ◌+◌, length, drop, len_utf8, chars, measured, width}
use Rattle.typst_positions.proofs.Widths.{total}
use Rattle.typst_positions.proofs.columns.bytes_within.Given as goal

abbrev pub invariant-loop-c : goal.invariant-loop-c
invariant-loop-c l =
    let rest = drop (length l.yielded) (chars l.line) in
    record {
      counted : measured len_utf8 (width l.encoding) l.column (chars l.line) ≡ l.bytes + measured len_utf8 (width l.encoding) l.left rest;
      within : l.bytes + total len_utf8 rest ≡ length l.line;
    }
