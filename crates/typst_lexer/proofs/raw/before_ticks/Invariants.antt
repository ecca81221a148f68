use Rattle.typst_lexer.proofs.Cited.{◌≡◌, ◌-◌, reverse, chars, place, past_ticks}
use Rattle.typst_lexer.proofs.raw.before_ticks.Given as goal

abbrev pub invariant-loop-i : goal.invariant-loop-i
invariant-loop-i l = past_ticks (l.count - l.i) (place l.s).before ≡ past_ticks l.count (reverse (chars l.text))
