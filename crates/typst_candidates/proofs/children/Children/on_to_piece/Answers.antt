use Rattle.std.proofs.Common.{arith, ◌-◌}
use Rattle.typst_candidates.proofs.Edges.{on_step}
use Rattle.typst_candidates.proofs.children.Children.on_to_piece.Goals as goal

pub loop-edge-preserved : goal.loop-edge-preserved
loop-edge-preserved c = grind (arith, on_step)
