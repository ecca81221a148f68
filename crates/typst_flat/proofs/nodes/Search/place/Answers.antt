use Rattle.std.proofs.Common.{arith}
use Rattle.typst_flat.proofs.Placing.{sought_here}
use Rattle.typst_flat.proofs.nodes.Search.place.Goals as goal

pub returns : goal.returns
returns c = grind (arith, sought_here)
