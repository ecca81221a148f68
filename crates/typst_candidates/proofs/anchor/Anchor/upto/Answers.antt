use Rattle.std.proofs.Common.{◌+◌, arith}
use Rattle.typst_candidates.proofs.Anchors.{same-front}
use Rattle.typst_candidates.proofs.anchor.Anchor.upto.Goals as goal

pub returns-then-saturating_sub-number : goal.returns-then-saturating_sub-number
returns-then-saturating_sub-number c = λ es fs h same long.
    same-front (c.args.number + 1) es fs c.args.self h (omega arith) same (omega (arith, long))
