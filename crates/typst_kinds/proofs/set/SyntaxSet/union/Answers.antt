use Rattle.typst_kinds.proofs.Membership.{united}
use Rattle.typst_kinds.proofs.set.SyntaxSet.union.Goals as goal

pub returns : goal.returns
returns c = united c.args.self.words c.args.other.words
