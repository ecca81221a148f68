use Rattle.typst_tree.specs.Wanted.{wanted}
use Rattle.typst_tree.proofs.FoundFrom.{from_own}
use Rattle.typst_tree.proofs.search.first_in.Goals as goal

pub first_from-requires-clause-least : goal.first_from-requires-clause-least
first_from-requires-clause-least c = from_own (wanted c.args.search.now) (record { node = c.args.node; number = c.args.number; offset = c.args.offset })
