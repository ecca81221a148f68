use Rattle.std.proofs.Common.{arith}
use Rattle.typst_candidates.proofs.Anchors.{piece-from}
use Rattle.typst_candidates.proofs.records.Records.run_place.Goals as goal

pub returns-then-self-at-clause-piece : goal.returns-then-self-at-clause-piece
returns-then-self-at-clause-piece c = grind (arith, piece-from)
