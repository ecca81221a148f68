use Rattle.std.proofs.Common.{arith}
use Rattle.typst_candidates.proofs.Edges.{back_stop_first, back_all_first}
use Rattle.typst_candidates.proofs.children.Children.back_to_begun.Goals as goal

pub returns-then-edge-byte-clause-index : goal.returns-then-edge-byte-clause-index
returns-then-edge-byte-clause-index c =
    back_stop_first c.args.byte c.args.self.now.at c.args.self.now.kids.now c.loop-edge.edge.index c.before-edge.result.index c.loop-edge.invariant.edge.within
    (λ h. omega (arith, c.loop-edge.invariant.after h, c.loop-edge.invariant.edge.byte)) (omega (arith, c.loop-edge-test.true)) c.before-edge.ensures.index (omega (arith, c.before-edge.ensures.edge.byte, c.if-edge-byte.true))

pub returns-clause-index : goal.returns-clause-index
returns-clause-index c = grind (arith, back_all_first)
