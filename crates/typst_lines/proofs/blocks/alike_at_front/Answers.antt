use Rattle.std.proofs.Common.{arith}
use Rattle.typst_lines.proofs.Alike.{front-more}
use Rattle.typst_lines.proofs.blocks.alike_at_front.Goals as goal

pub loop-at-preserved : goal.loop-at-preserved
loop-at-preserved c = record { within = omega arith; same = front-more c.args.first.now c.args.second.now c.loop-at.at 64 c.loop-at.invariant.same c.if-eq.ensures }
