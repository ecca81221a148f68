use Rattle.typst_positions.proofs.Cited.{◌≡◌, ◌≤◌, ◌+◌, length, drop, len_utf8, chars, measured, width}
use Rattle.typst_positions.proofs.Widths.{total}
use Rattle.typst_positions.proofs.columns.width_within.Given as goal

abbrev pub invariant-loop-c : goal.invariant-loop-c
invariant-loop-c l =
    let rest = drop (length l.yielded) (chars l.line) in
    record {
      counted : measured (width l.encoding) len_utf8 l.bytes (chars l.line) ≡ l.width + measured (width l.encoding) len_utf8 l.left rest;
      within : l.width + total len_utf8 rest ≤ length l.line;
    }
