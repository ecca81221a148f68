use Rattle.typst_parser.proofs.Cited.{◌≡◌, ◌+◌, length, take, kids_of, forest, joined}
use Rattle.typst_parser.proofs.attempt.byte_before.Given as goal

abbrev pub invariant-loop-kid : goal.invariant-loop-kid
invariant-loop-kid l = l.at ≡ length l.node.head.text + length (joined (forest (take l.kid-index (kids_of l.node))))
