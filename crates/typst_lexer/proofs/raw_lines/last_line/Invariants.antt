use Rattle.typst_lexer.proofs.Cited.{length, chars, place}
use Rattle.typst_lexer.proofs.Loops.{IsAtRow}
use denote.Shadow.{shadow}
use denote.Text.{Utf8}
use Rattle.typst_lexer.proofs.raw_lines.last_line.Given as goal

abbrev pub invariant-loop-start : goal.invariant-loop-start
invariant-loop-start l = shadow (Utf8 l.line) × IsAtRow (chars l.text) (place l.start) (chars l.line) (place l.s)

abbrev pub decreases-loop-start : goal.decreases-loop-start
decreases-loop-start l = length (place l.s).ahead
