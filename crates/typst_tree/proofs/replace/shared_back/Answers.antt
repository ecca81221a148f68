use Rattle.typst_tree.proofs.Cited.{arith, get_or-reverse, length-reverse}
use Rattle.typst_tree.proofs.SameTree.{front_more, front_none, front_end, not_same, same_from_bare}
use Rattle.typst_tree.proofs.replace.shared_back.Goals as goal

pub returns-then-not-spanless_eq : goal.returns-then-not-spanless_eq
returns-then-not-spanless_eq c = grind (arith, get_or-reverse, front_none, length-reverse, not_same)

pub loop-i-preserved : goal.loop-i-preserved
loop-i-preserved c = grind (arith, get_or-reverse, front_more, length-reverse, same_from_bare)

pub returns : goal.returns
returns c = grind (arith, front_end, length-reverse)
