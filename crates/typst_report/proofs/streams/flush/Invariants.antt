use Rattle.std.specs.Io.KnownBytes.{Keeps}
use Rattle.typst_report.proofs.streams.flush.Given as goal

abbrev pub invariant-loop-turn : goal.invariant-loop-turn
invariant-loop-turn g l = Keeps (g.W.Write.contents l.fn.output) (g.W.Write.contents l.output)
