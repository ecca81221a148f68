use Rattle.std.proofs.Common.{arith}
use Rattle.typst_styles.proofs.WindowEdges.{bytes_with, ends_one}
use Rattle.typst_styles.proofs.windows.edge_after.Goals as goal

pub loop-index-preserved : goal.loop-index-preserved
loop-index-preserved c = omega (arith, bytes_with c.args.nodes.now c.loop-index.index c.index-nodes-index.result (omega arith) c.index-nodes-index.is, c.loop-index.invariant)

pub returns-then-is_edge_to : goal.returns-then-is_edge_to
returns-then-is_edge_to c = grind (arith, ends_one)
