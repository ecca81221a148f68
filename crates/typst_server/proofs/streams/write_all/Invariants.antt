use Rattle.typst_server.proofs.Cited.{take, Appends, string_bytes, frames_of, map}
use Rattle.typst_server.proofs.streams.write_all.Given as goal

abbrev pub invariant-loop-body : goal.invariant-loop-body
invariant-loop-body g l = Appends (g.W.Write.contents l.fn.output) (g.W.Write.contents l.output) (frames_of (map string_bytes (take l.body-index l.bodies)))
