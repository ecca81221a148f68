use Rattle.std.proofs.Common.{rules}
use Rattle.typst_kinds.proofs.diagnostic.Hint.new.Goals as goal

pub returns : goal.returns
returns c = search rules
