use Rattle.std.proofs.Common.{arith}
use Rattle.typst_candidates.proofs.Edges.{begun_next, begun_upto, first_stop}
use Rattle.typst_candidates.proofs.children.Children.on_to_begun.Goals as goal

pub loop-next-init : goal.loop-next-init
loop-next-init c = grind (arith, begun_upto)

pub loop-next-preserved : goal.loop-next-preserved
loop-next-preserved c = grind (arith, begun_next)

pub returns-else-next-byte-clause-index : goal.returns-else-next-byte-clause-index
returns-else-next-byte-clause-index c = grind (arith, first_stop)
