use Rattle.typst_lexer.proofs.Cited.{◌≡◌, length, not, reverse, find, is_whitespace, chars, place}
use Rattle.typst_lexer.proofs.raw_lines.has_spare_space.Given as goal

abbrev pub invariant-loop-c : goal.invariant-loop-c
invariant-loop-c l = find (λ c. not (is_whitespace c)) (place l.s).before ≡ find (λ c. not (is_whitespace c)) (reverse (chars l.line))

abbrev pub decreases-loop-c : goal.decreases-loop-c
decreases-loop-c l = length (place l.s).before
