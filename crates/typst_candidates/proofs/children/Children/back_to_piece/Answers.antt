use Rattle.std.proofs.Common.{arith}
use Rattle.typst_candidates.proofs.Edges.{back_step, back_stop}
use Rattle.typst_candidates.proofs.children.Children.back_to_piece.Goals as goal

pub returns-then-not-is_within_piece-clause-index : goal.returns-then-not-is_within_piece-clause-index
returns-then-not-is_within_piece-clause-index c = grind (arith, back_stop)

pub loop-edge-preserved : goal.loop-edge-preserved
loop-edge-preserved c = grind (arith, back_step)
