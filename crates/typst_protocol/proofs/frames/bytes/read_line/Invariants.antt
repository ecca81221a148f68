use Rattle.typst_protocol.proofs.Cited.{◌≡◌, None, take, Consumes, before_crlf}
use Rattle.typst_protocol.proofs.frames.bytes.read_line.Given as goal

abbrev pub invariant-loop-at : goal.invariant-loop-at
invariant-loop-at g l =
    record {
      taken : Consumes (g.R.Read.remaining l.fn.reader) (g.R.Read.remaining l.reader) (take l.at l.line);
      none : before_crlf (take l.at l.line) ≡ None;
    }
