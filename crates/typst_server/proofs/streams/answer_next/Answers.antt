use Rattle.typst_server.proofs.Cited.{Ok, subst, AnswersFrame}
use Rattle.typst_server.proofs.Transcripts.{read-on, turns}
use Rattle.typst_server.proofs.streams.answer_next.Goals as goal

pub returns-clause-turn : goal.returns-clause-turn
returns-clause-turn g c =
    let from = c.args.server.now in
    let to = c.answer_frame-reply.new.server in
    let held = c.read_frame.new.body.items in
    let what = c.in-Ok.frame in
    let answer = c.answer_frame-reply.result in
    let said : AnswersFrame from to what held answer = subst (λ body. AnswersFrame from to what body answer) c.as_mut_slice.ensures.value c.answer_frame-reply.ensures in
    let read = read-on c.args.frames.now c.read_frame.new.self (Ok what) held c.requires c.in-Ok.ensures in
    turns from to c.args.frames.now.left c.read_frame.new.self.left (g.W.Write.contents c.args.output.now) (g.W.Write.contents c.send.new.output) held what answer c.send.result read.1 said c.send.ensures
