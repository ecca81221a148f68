use Rattle.typst_language.proofs.ways.read_so.Goals as goal

pub returns-in-SpreadArgument-clause-scans : goal.returns-in-SpreadArgument-clause-scans
returns-in-SpreadArgument-clause-scans g c = rw c.in-SpreadArgument.is c.spread_argument.ensures
