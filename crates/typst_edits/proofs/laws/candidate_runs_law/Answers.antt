use Rattle.typst_edits.proofs.InnerRuns.{inner-pieces-of-law}
use Rattle.typst_edits.proofs.RootRuns.{root-pieces-of-law}
use Rattle.typst_edits.proofs.laws.candidate_runs_law.Goals as goal

pub returns : goal.returns
returns c = record { root = root-pieces-of-law; inner = inner-pieces-of-law }
