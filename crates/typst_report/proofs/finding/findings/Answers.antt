use Rattle.std.proofs.Common.{arith}
use Rattle.typst_report.proofs.VisitLemmas.{reported_walk, reported_diagnosed}
use Rattle.typst_report.proofs.finding.findings.Goals as goal

pub loop-walk-init : goal.loop-walk-init
loop-walk-init c = grind (arith, reported_diagnosed, reported_walk)
