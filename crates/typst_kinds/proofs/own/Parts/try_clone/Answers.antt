use Rattle.std.proofs.Common.{rules}
use Rattle.typst_kinds.proofs.own.Parts.try_clone.Goals as goal

pub returns : goal.returns
returns c = search rules
