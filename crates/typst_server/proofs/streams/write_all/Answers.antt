use Rattle.typst_server.proofs.Cited.{arith, ap, subst, ◌∙◌, Appends, string_bytes, Begins, begins-whole, written}
use Rattle.typst_server.proofs.Transcripts.{all-written, begins-at, more-written}
use Rattle.typst_server.proofs.streams.write_all.Goals as goal

pub returns-in_err-write_frame-clause-begins : goal.returns-in_err-write_frame-clause-begins
returns-in_err-write_frame-clause-begins g c =
    let W = g.W.Write.contents in
    let x = c.body-item.result in
    begins-at (W c.args.output.now) (W c.loop-body.output) (W c.write_frame.new.writer) c.args.bodies.now c.loop-body.body-index x c.loop-body-test.true c.loop-body.invariant
    (subst (λ bytes. Begins (W c.loop-body.output) (W c.write_frame.new.writer) (written bytes)) (c.as_bytes.ensures.value ∙ ap string_bytes c.body-item.is) c.write_frame.ensures.begins)

pub loop-body-preserved : goal.loop-body-preserved
loop-body-preserved g c =
    let W = g.W.Write.contents in
    let x = c.body-item.result in
    more-written (W c.args.output.now) (W c.loop-body.output) (W c.write_frame.new.writer) c.args.bodies.now c.loop-body.body-index x c.loop-body-test.true c.loop-body.invariant
    (subst (λ bytes. Appends (W c.loop-body.output) (W c.write_frame.new.writer) (written bytes)) (c.as_bytes.ensures.value ∙ ap string_bytes c.body-item.is) c.in_ok-write_frame.ensures.whole)

pub returns-clause-begins : goal.returns-clause-begins
returns-clause-begins g c = grind (arith, begins-whole, all-written)
