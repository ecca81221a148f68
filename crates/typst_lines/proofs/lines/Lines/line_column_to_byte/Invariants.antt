use Rattle.typst_lines.proofs.Cited.{◌≡◌, chars, place}
use Rattle.typst_lines.proofs.RoundTrip.{HasPassed}
use Rattle.typst_lines.proofs.lines.Lines.line_column_to_byte.Given as goal

abbrev pub invariant-loop-i : goal.invariant-loop-i
invariant-loop-i g l =
    record {
      passed : HasPassed (chars l.initial.scanner.text.now) l.i l.scanner.cursor (place l.scanner);
      same_text : l.scanner.text.now ≡ l.initial.scanner.text.now;
    }
