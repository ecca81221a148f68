use Rattle.typst_kinds.proofs.Membership.{empty}
use Rattle.typst_kinds.proofs.set.SyntaxSet.new.Goals as goal

pub returns : goal.returns
returns c = empty
