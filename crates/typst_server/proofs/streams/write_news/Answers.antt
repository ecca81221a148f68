use Rattle.std.proofs.Common.{arith}
use Rattle.typst_server.proofs.Transcripts.{news-after, news-front}
use Rattle.typst_server.proofs.streams.write_news.Goals as goal

pub returns-in_err-write_warning-clause-begins : goal.returns-in_err-write_warning-clause-begins
returns-in_err-write_warning-clause-begins g c = grind (arith, news-front)

pub returns-clause-begins : goal.returns-clause-begins
returns-clause-begins g c =
    let W = g.W.Write.contents in
    news-after (W c.args.output.now) (W c.write_warning.new.output) (W c.write_all.new.output) c.args.news.now c.as_slice.result.now c.as_slice.ensures.value c.in_ok-write_warning.ensures.whole
    c.write_all.ensures.begins
