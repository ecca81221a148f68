use Rattle.std.proofs.Common.{arith}
use Rattle.typst_highlight.proofs.Returning.{left_start}
use Rattle.typst_highlight.proofs.sink.give_tree.Goals as goal

pub nodes-init : goal.nodes-init
nodes-init g c = grind (arith, left_start)

pub nodes-preserved-then-is_childless : goal.nodes-preserved-then-is_childless
nodes-preserved-then-is_childless g c = grind arith

pub nodes-preserved : goal.nodes-preserved
nodes-preserved g c = grind arith
