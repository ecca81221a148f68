use Rattle.typst_server.proofs.Cited.{◌≡◌, IfNone, IfSome, None, subst, GoesOn, Turns}
use Rattle.typst_server.proofs.Transcripts.{ends-known, gives-up-known, more-known}
use Rattle.typst_server.proofs.streams.answer_all.Goals as goal

pub returns-in-Some : goal.returns-in-Some
returns-in-Some g c =
    ends-known c.args.server.now c.loop-turn.server c.answer_next.new.server (g.R.Read.remaining c.args.input) (g.W.Write.contents c.args.output.now) (g.W.Write.contents c.loop-turn.output)
    (g.W.Write.contents c.answer_next.new.output) c.loop-turn.frames.left c.in-Some.ended c.loop-turn.invariant.known c.in-Some.ensures.turn

pub loop-turn-preserved : goal.loop-turn-preserved
loop-turn-preserved g c =
    let mid = c.loop-turn.server in
    let to = c.answer_next.new.server in
    let before = g.W.Write.contents c.loop-turn.output in
    let behind = g.W.Write.contents c.answer_next.new.output in
    let left = c.loop-turn.frames.left in
    let next = c.answer_next.new.frames.left in
    let unended : c.answer_next.new.frames.end ≡ None = subst (λ result. IfNone result (c.answer_next.new.frames.end ≡ None)) c.in_default-answer_next.is c.answer_next.ensures.«open» in
    let turn : IfSome left (λ rest. GoesOn mid to rest before behind next) =
    subst (λ result. IfSome left (λ rest. Turns mid to rest before behind next result)) c.in_default-answer_next.is c.answer_next.ensures.turn in
    record {
      unended = unended;
      known = more-known c.args.server.now mid to (g.R.Read.remaining c.args.input) (g.W.Write.contents c.args.output.now) before behind left next c.loop-turn.invariant.known turn;
    }

pub returns : goal.returns
returns g c =
    gives-up-known c.args.server.now c.loop-turn.server (g.R.Read.remaining c.args.input) (g.W.Write.contents c.args.output.now) (g.W.Write.contents c.loop-turn.output) c.loop-turn.frames.left
    c.loop-turn.invariant.known
