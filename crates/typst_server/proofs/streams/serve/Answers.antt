use Rattle.typst_server.proofs.Transcripts.{serves-known}
use Rattle.typst_server.proofs.streams.serve.Goals as goal

pub returns : goal.returns
returns g c =
    serves-known c.args.errors c.new-server.result c.answer_all-ended.new.server (g.R.Read.remaining c.args.input) (g.W.Write.contents c.args.output.now) (g.W.Write.contents c.answer_all-ended.new.output)
    c.answer_all-ended.result c.status.result c.new-server.ensures c.answer_all-ended.ensures c.status.ensures
