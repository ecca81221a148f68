use Rattle.std.proofs.Common.{arith}
use Rattle.typst_candidates.proofs.Blocks.{rear-block}
use Rattle.typst_candidates.proofs.Passes.{rear-none, rear-step, rear-stop}
use Rattle.typst_candidates.proofs.records.Records.rear.Goals as goal

pub entries-preserved-in-Some : goal.entries-preserved-in-Some
entries-preserved-in-Some c = grind (arith, rear-block)

pub returns-in_default-back : goal.returns-in_default-back
returns-in_default-back c = grind (arith, rear-none)

pub entries-preserved : goal.entries-preserved
entries-preserved c = grind (arith, rear-step)

pub returns : goal.returns
returns c = grind (arith, rear-stop)
