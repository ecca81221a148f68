use Rattle.std.proofs.Common.{rules}
use Rattle.typst_bindings.proofs.parts_listing.Parts.kind.Goals as goal

pub returns-clause-kind : goal.returns-clause-kind
returns-clause-kind c = search rules
