use Rattle.std.proofs.Common.{◌≡◌, None, IfSome}
use Rattle.typst_server.proofs.Transcripts.{SoFar}
use Rattle.typst_server.proofs.streams.answer_all.Given as goal

abbrev pub invariant-loop-turn : goal.invariant-loop-turn
invariant-loop-turn g l =
    record {
      unended : l.frames.end ≡ None;
      known : IfSome (g.R.Read.remaining l.fn.input) (λ stream. SoFar l.fn.server l.server stream (g.W.Write.contents l.fn.output) (g.W.Write.contents l.output) l.frames.left);
    }
