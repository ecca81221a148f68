use Rattle.typst_document.proofs.walk.holds_end.Given as goal
use Rattle.typst_document.specs.Places.{IsOneLine}

abbrev pub invariant-loop-byte : goal.invariant-loop-byte
invariant-loop-byte l = IsOneLine l.text 0 l.byte-index
