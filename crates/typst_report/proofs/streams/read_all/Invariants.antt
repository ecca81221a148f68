use Rattle.std.specs.Io.KnownBytes.{Consumes}
use Rattle.typst_report.proofs.streams.read_all.Given as goal

abbrev pub invariant-loop-turn : goal.invariant-loop-turn
invariant-loop-turn g l = Consumes (g.R.Read.remaining l.fn.input) (g.R.Read.remaining l.input) l.bytes.items
