use Rattle.std.proofs.Common.{◌-◌}
use Rattle.typst_protocol.proofs.Heads.{GoesOn}
use Rattle.typst_protocol.proofs.frames.reader.read_head.Given as goal

abbrev pub invariant-loop-number : goal.invariant-loop-number
invariant-loop-number g l = GoesOn (g.R.Read.remaining l.fn.reader) (g.R.Read.remaining l.reader) (64 - l._number) l.length
