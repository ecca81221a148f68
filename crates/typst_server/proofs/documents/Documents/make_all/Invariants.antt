use Rattle.typst_server.proofs.Texts.{Made}
use Rattle.typst_server.proofs.documents.Documents.make_all.Given as goal
use Rattle.typst_server.proofs.Cited.{KeepsOthers, found, KeepsSent}

abbrev pub invariant-loop-value : goal.invariant-loop-value
invariant-loop-value l =
    record {
      made : Made l.encoding (found l.uri l.fn.self) (found l.uri l.self) l.changes l.value-index;
      others : KeepsOthers l.uri l.fn.self l.self;
      sent : KeepsSent l.fn.self l.self;
    }
