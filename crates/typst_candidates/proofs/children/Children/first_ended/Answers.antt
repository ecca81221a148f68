use Rattle.std.proofs.Common.{arith}
use Rattle.typst_candidates.proofs.Edges.{ended_from, ended_next, end_stop, end_all}
use Rattle.typst_candidates.proofs.children.Children.first_ended.Goals as goal

pub loop-end-init : goal.loop-end-init
loop-end-init c = grind (arith, ended_from)

pub returns-then-end-byte-clause-index : goal.returns-then-end-byte-clause-index
returns-then-end-byte-clause-index c = grind (arith, end_stop)

pub loop-end-preserved : goal.loop-end-preserved
loop-end-preserved c = grind (arith, ended_next)

pub returns-clause-index : goal.returns-clause-index
returns-clause-index c = end_all c.args.byte c.args.self.now.at c.args.self.now.kids.now c.loop-end.end.index c.loop-end.invariant.ended (omega (arith, c.loop-end-test.false)) c.loop-end.invariant.edge.within
