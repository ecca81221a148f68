use Rattle.typst_tokens.proofs.Cited.{◌≡◌, ◌+◌, ◌-◌, length, false, chars, place, line_ends}
use Rattle.typst_tokens.proofs.common.count_newlines.Given as goal

abbrev pub invariant-loop-c : goal.invariant-loop-c
invariant-loop-c l = l.ends + line_ends l.after_cr (place l.s).ahead ≡ line_ends false (chars l.text)

abbrev pub decreases-loop-c : goal.decreases-loop-c
decreases-loop-c l = length l.s.text.now - l.s.cursor
