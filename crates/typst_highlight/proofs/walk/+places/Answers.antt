use Rattle.std.proofs.Common.{arith}
use Rattle.typst_highlight.proofs.Places.{into_bare, into_held, over_bare}
use Rattle.typst_highlight.proofs.walk.+places.Goals as goal
use Rattle.typst_highlight.proofs.walk.+places.Goals.{first_place-then-holds_leaf, first_place-else-holds_leaf}

pub first_place-nodes-preserved-then-descendants-share : goal.first_place-nodes-preserved-then-descendants-share
first_place-nodes-preserved-then-descendants-share t c = grind (arith, first_place-then-holds_leaf, into_held, first_place-else-holds_leaf, into_bare)

pub first_place-nodes-preserved : goal.first_place-nodes-preserved
first_place-nodes-preserved t c = grind (arith, over_bare)
