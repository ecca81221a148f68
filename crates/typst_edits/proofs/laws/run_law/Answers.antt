use Rattle.typst_edits.proofs.BlockRuns.{inner-law, run-law, start-law}
use Rattle.typst_edits.proofs.RunTrees.{run-tree-law}
use Rattle.typst_edits.proofs.laws.run_law.Goals as goal

pub returns : goal.returns
returns c = record { pieces = run-law; start = start-law; inner = inner-law; tree = run-tree-law }
