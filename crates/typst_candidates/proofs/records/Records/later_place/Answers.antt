use Rattle.std.proofs.Common.{arith}
use Rattle.typst_candidates.proofs.Anchors.{pieces-from}
use Rattle.typst_candidates.proofs.records.Records.later_place.Goals as goal

pub returns-then-number-anchor-clause-pieces : goal.returns-then-number-anchor-clause-pieces
returns-then-number-anchor-clause-pieces c = grind (arith, pieces-from)
