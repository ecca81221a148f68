use Rattle.std.proofs.Common.{arith}
use Rattle.typst_candidates.proofs.Stops.{found-push}
use Rattle.typst_candidates.proofs.candidate.push_run.Goals as goal

pub returns : goal.returns
returns c = grind (arith, found-push)
