use Rattle.typst_protocol.proofs.Cited.{◌≤◌, length, take, Appends}
use Rattle.typst_protocol.proofs.frames.writer.write_bytes.Given as goal

abbrev pub invariant-loop-turn : goal.invariant-loop-turn
invariant-loop-turn g l =
    record {
      within : l.done ≤ length l.bytes;
      written : Appends (g.W.Write.contents l.fn.writer) (g.W.Write.contents l.writer) (take l.done l.bytes);
    }
