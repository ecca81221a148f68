use Rattle.typst_tokens.proofs.Cited.{◌≡◌, ◌<◌, ◌^◌, ◌-◌, length, chars, place, number}
use Rattle.typst_tokens.proofs.SpelledNumbers.{number_from}
use Rattle.typst_tokens.proofs.sets.number.Given as goal

abbrev pub invariant-loop-c : goal.invariant-loop-c
invariant-loop-c l = record {
  reads : number_from l.base l.value (place l.s).ahead ≡ number l.base (chars l.digits);
  fits : l.value < 2 ^ 64;
}

abbrev pub decreases-loop-c : goal.decreases-loop-c
decreases-loop-c l = length l.s.text.now - l.s.cursor
