use Rattle.typst_flat.proofs.Cited.{arith, kids_are, nodes_below}
use Rattle.typst_flat.proofs.Placing.{sought_near}
use Rattle.typst_flat.proofs.nodes.Search.place_before.Goals as goal

pub from_index-requires : goal.from_index-requires
from_index-requires c = grind (arith, kids_are)

pub overflow_add-result : goal.overflow_add-result
overflow_add-result c = grind (arith, nodes_below)

pub returns : goal.returns
returns c = grind (arith, sought_near)
