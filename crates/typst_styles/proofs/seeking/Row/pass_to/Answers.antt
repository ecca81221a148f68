use Rattle.std.proofs.Common.{length, refl, ap, arith}
use Rattle.typst_styles.proofs.SoughtRows.{whole_is, whole_nodes}
use Rattle.typst_styles.proofs.SoughtSteps.{from_near}
use Rattle.typst_styles.proofs.seeking.Row.pass_to.Goals as goal

pub returns-in_default : goal.returns-in_default
returns-in_default c = (whole_is c.args.wanted.now.root.now c.args.self.now c.requires.whole, refl)

pub from_index-later-requires : goal.from_index-later-requires
from_index-later-requires c = omega (arith, c.last_to-begun.ensures.boundary.within, ap length (whole_nodes c.args.wanted.now.root.now c.args.self.now c.requires.whole))

pub returns : goal.returns
returns c =
    from_near c.args.wanted.now.within.now c.args.wanted.now.text.now c.args.wanted.now.root.now c.last_to-begun.result c.args.self.now _ c.requires.whole c.in-Value.is c.requires.counted c.last_to-begun.ensures.boundary c.last_to-begun.ensures.low
    (record { placed = c.from_boundary-self.ensures; later = c.from_index-later.ensures; start = refl; role_in = refl; still = refl })
