use Rattle.std.proofs.Common.{refl}
use Rattle.typst_tree.proofs.FoundBelow.{joined}
use Rattle.typst_tree.proofs.back.Found.with.Goals as goal

pub returns-clause-below : goal.returns-clause-below
returns-clause-below c = λ o n in_order w.
    joined o n in_order c.args.self c.args.inner _ w c.requires c.then.ensures.joins (c.then.ensures.in_order c.requires.order) refl refl c.saturating_add.ensures
