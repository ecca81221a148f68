use Rattle.typst_markup.proofs.Cited.{◌≡◌, ◌++◌, length, place, unescaped, string_key, string_bytes}
use Rattle.typst_markup.proofs.escapes.string_key.Given as goal

abbrev pub invariant-loop-c : goal.invariant-loop-c
invariant-loop-c l = string_bytes l.key ++ unescaped 0 (place l.s).ahead ≡ string_key l.fn.text

abbrev pub decreases-loop-c : goal.decreases-loop-c
decreases-loop-c l = length (place l.s).ahead
