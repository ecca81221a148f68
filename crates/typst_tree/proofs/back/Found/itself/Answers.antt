use Rattle.std.proofs.Common.{refl}
use Rattle.typst_tree.proofs.FoundBelow.{itself}
use Rattle.typst_tree.proofs.back.Found.itself.Goals as goal

pub returns-clause-below : goal.returns-clause-below
returns-clause-below c =
    itself c.args.node.now c.args.number c.args.in_order _ refl refl refl c.open.ensures.reach c.open.ensures.in_order
