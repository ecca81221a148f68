use Rattle.std.proofs.Common.{arith}
use Rattle.typst_tree.proofs.SameTree.{front_more, front_none, front_end, not_same, same_from_bare}
use Rattle.typst_tree.proofs.replace.shared_front.Goals as goal

pub returns-then-not-spanless_eq : goal.returns-then-not-spanless_eq
returns-then-not-spanless_eq c = grind (arith, front_none, not_same)

pub loop-i-preserved : goal.loop-i-preserved
loop-i-preserved c = grind (arith, front_more, same_from_bare)

pub returns : goal.returns
returns c = omega (arith, c.loop-i.invariant, front_end c.args.old.now c.args.new.now c.loop-i.i (omega arith))
