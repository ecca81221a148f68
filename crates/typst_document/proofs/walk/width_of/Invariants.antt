use Rattle.typst_document.proofs.Cited.{◌≡◌, ◌+◌, length, drop, chars, wide}
use Rattle.typst_document.proofs.walk.width_of.Given as goal

abbrev pub invariant-loop-c : goal.invariant-loop-c
invariant-loop-c l = l.count + wide l.encoding (drop (length l.yielded) (chars l.text)) ≡ wide l.encoding (chars l.text)
