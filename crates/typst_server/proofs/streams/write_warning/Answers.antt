use Rattle.typst_server.proofs.Cited.{subst, ◌∙◌, arith, Begins}
use Rattle.typst_server.proofs.Transcripts.{warned-bytes}
use Rattle.typst_server.proofs.streams.write_warning.Goals as goal

pub returns-in-Some-clause-whole : goal.returns-in-Some-clause-whole
returns-in-Some-clause-whole g c = grind (arith, warned-bytes)

pub returns-in-Some-clause-begins : goal.returns-in-Some-clause-begins
returns-in-Some-clause-begins g c =
    let W = g.W.Write.contents in
    subst (Begins (W c.args.output.now) (W c.write_frame.new.writer))
    (warned-bytes c.args.lost c.in-Some.loss c.as_bytes.result.now c.in-Some.is (c.as_bytes.ensures.value ∙ c.warning.ensures)) c.write_frame.ensures.begins
