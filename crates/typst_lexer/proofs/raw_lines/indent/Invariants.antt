use Rattle.typst_lexer.proofs.Cited.{◌≡◌, ◌≤◌, ◌+◌, length, is_whitespace, prefix_len, chars, place}
use Rattle.typst_lexer.proofs.raw_lines.indent.Given as goal

abbrev pub invariant-loop-s : goal.invariant-loop-s
invariant-loop-s l = record {
  counts : l.count + prefix_len is_whitespace (place l.s).ahead ≡ prefix_len is_whitespace (chars l.line);
  within : l.count + length (place l.s).ahead ≤ length l.line;
}

abbrev pub decreases-loop-s : goal.decreases-loop-s
decreases-loop-s l = length (place l.s).ahead
