use Rattle.typst_candidates.proofs.Tallies.{tally-upto}
use Rattle.typst_candidates.proofs.entries.Tally.upto.Goals as goal

pub returns-then-self-number-clause-same : goal.returns-then-self-number-clause-same
returns-then-self-number-clause-same c = λ ps qs h same long. tally-upto c.args.number ps qs c.args.self h c.if-self-number.true same long
