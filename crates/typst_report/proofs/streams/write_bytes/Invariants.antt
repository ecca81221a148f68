use Rattle.typst_report.proofs.Cited.{◌≤◌, length, take, Appends}
use Rattle.typst_report.proofs.streams.write_bytes.Given as goal

abbrev pub invariant-loop-turn : goal.invariant-loop-turn
invariant-loop-turn g l =
    record {
      within : l.done ≤ length l.bytes;
      written : Appends (g.W.Write.contents l.fn.output) (g.W.Write.contents l.output) (take l.done l.bytes);
    }
