use Rattle.typst_lexer.proofs.Cited.{◌≡◌, ◌-◌, min, prefix_len, in_line, moved, place}
use Rattle.typst_lexer.proofs.raw_lines.skip_in_line.Given as goal

abbrev pub invariant-loop-i : goal.invariant-loop-i
invariant-loop-i l = record {
  goes_on : moved (min (l.count - l.i) (prefix_len in_line (place l.s).ahead)) (place l.s) ≡ moved (min l.count (prefix_len in_line (place l.fn.s).ahead)) (place l.fn.s);
  same_text : l.s.text.now ≡ l.fn.s.text.now;
}
