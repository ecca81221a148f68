use Rattle.std.proofs.Common.{◌∙◌}
use Rattle.std.proofs.lemmas.Result.{on_ok_weaker}
use Rattle.typst_server.proofs.Transcripts.{nameless-after, nameless-front, nameless-whole}
use Rattle.typst_server.proofs.streams.write_reply.Goals as goal

pub returns-in_err-write_frame-in-Nameless-clause-begins : goal.returns-in_err-write_frame-in-Nameless-clause-begins
returns-in_err-write_frame-in-Nameless-clause-begins g c =
    let W = g.W.Write.contents in
    nameless-front (W c.args.output.now) (W c.write_frame-in-Nameless.new.writer) c.args.reply.now c.in-Nameless.unread c.in-Nameless.news c.as_bytes-in-Nameless.result.now c.in-Nameless.is
    (c.as_bytes-in-Nameless.ensures.value ∙ c.response.ensures) c.write_frame-in-Nameless.ensures.begins

pub returns-in_ok-write_frame-in-Nameless-clause-whole : goal.returns-in_ok-write_frame-in-Nameless-clause-whole
returns-in_ok-write_frame-in-Nameless-clause-whole g c =
    let W = g.W.Write.contents in
    on_ok_weaker c.write_news.result (λ news.
    nameless-whole (W c.args.output.now) (W c.write_frame-in-Nameless.new.writer) (W c.write_news.new.output) c.args.reply.now c.in-Nameless.unread c.in-Nameless.news c.as_bytes-in-Nameless.result.now
    c.in-Nameless.is (c.as_bytes-in-Nameless.ensures.value ∙ c.response.ensures) c.in_ok-write_frame-in-Nameless.ensures.whole news) c.write_news.ensures.whole

pub returns-in_ok-write_frame-in-Nameless-clause-begins : goal.returns-in_ok-write_frame-in-Nameless-clause-begins
returns-in_ok-write_frame-in-Nameless-clause-begins g c =
    let W = g.W.Write.contents in
    nameless-after (W c.args.output.now) (W c.write_frame-in-Nameless.new.writer) (W c.write_news.new.output) c.args.reply.now c.in-Nameless.unread c.in-Nameless.news c.as_bytes-in-Nameless.result.now
    c.in-Nameless.is (c.as_bytes-in-Nameless.ensures.value ∙ c.response.ensures) c.in_ok-write_frame-in-Nameless.ensures.whole c.write_news.ensures.begins
