use Rattle.typst_lexer.proofs.Cited.{◌≡◌, length, prefix_len, chars, in_line, place, least_indent, indent, later_lines}
use Rattle.typst_lexer.proofs.raw_lines.dedent.Given as goal

abbrev pub invariant-loop-s : goal.invariant-loop-s
invariant-loop-s l = record {
  least : least_indent l.least (later_lines (place l.s).ahead) ≡ least_indent (indent (chars l.last)) (later_lines (chars l.text));
  at_end : prefix_len in_line (place l.s).ahead ≡ 0;
}

abbrev pub decreases-loop-s : goal.decreases-loop-s
decreases-loop-s l = length (place l.s).ahead
