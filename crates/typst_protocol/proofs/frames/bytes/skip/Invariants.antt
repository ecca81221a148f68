use Rattle.typst_protocol.proofs.Cited.{◌≡◌, ℕ, ◌+◌, List, length, Consumes}
use Rattle.typst_protocol.proofs.frames.bytes.skip.Given as goal

abbrev pub invariant-loop-left : goal.invariant-loop-left
invariant-loop-left g l =
    record {
      bytes : List ℕ;
      count : length bytes + l.left ≡ l.count;
      taken : Consumes (g.R.Read.remaining l.fn.reader) (g.R.Read.remaining l.reader) bytes;
    }

abbrev pub decreases-loop-left : goal.decreases-loop-left
decreases-loop-left g l = l.left
