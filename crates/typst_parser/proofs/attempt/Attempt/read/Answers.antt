use Rattle.typst_parser.proofs.Cited.{arith, common_steps}
use Rattle.typst_parser.proofs.ReadSteps.{above-fits, above-leads, above-never, above-reads}
use Rattle.typst_parser.proofs.attempt.Attempt.read.Goals as goal

pub read_block-requires-clause-tries : goal.read_block-requires-clause-tries
read_block-requires-clause-tries g c = (c.args.path.now, record { change = c.requires.change; ready = c.requires.ready; among = c.requires.among })

pub returns-then-candidate : goal.returns-then-candidate
returns-then-candidate g c = grind (arith, common_steps)

pub read_top-requires-clause-tries : goal.read_top-requires-clause-tries
read_top-requires-clause-tries g c = grind arith

pub returns-in_default : goal.returns-in_default
returns-in_default g c = grind arith

pub run_in-requires-clause-leads : goal.run_in-requires-clause-leads
run_in-requires-clause-leads g c = grind (arith, above-leads)

pub run_in-requires-clause-fits : goal.run_in-requires-clause-fits
run_in-requires-clause-fits g c =
    let q = c.requires in
    let some = c.in-Some.ensures.some in
    above-fits (g.C.Classes.classes c.args.self.now.asked.now.classes.now) c.args.self.now q.change c.args.path.now c.args.candidate q.ready q.among c.in-Some.block.now some.0 some.1

pub returns-in_default-run_in : goal.returns-in_default-run_in
returns-in_default-run_in g c = λ ch ready chosen serves.
    let some = c.in-Some.ensures.some in
    absurd (above-never (g.C.Classes.classes c.args.self.now.asked.now.classes.now) c.args.self.now ch c.args.path.now c.args.candidate ready chosen c.in-Some.block.now some.0 some.1 c.if-candidate.false c.run_in.result c.run_in.ensures c.in_default-run_in.is)

pub read_inner-requires : goal.read_inner-requires
read_inner-requires g c =
    let q = c.requires in
    let some = c.in-Some.ensures.some in (
      q.change,
      c.args.path.now,
      above-reads (g.C.Classes.classes c.args.self.now.asked.now.classes.now) c.args.self.now q.change c.args.path.now c.args.candidate q.ready q.among c.in-Some.block.now some.0 some.1 c.if-candidate.false
          c.run_in.result c.run_in.ensures c.in-Some-run_in.run' c.in-Some-run_in.is c.args.serving.now q.serves,
    )

pub returns : goal.returns
returns g c = λ ch ready chosen serves.
    let some = c.in-Some.ensures.some in
    c.read_inner.ensures ch c.args.path.now
    (above-reads (g.C.Classes.classes c.args.self.now.asked.now.classes.now) c.args.self.now ch c.args.path.now c.args.candidate ready chosen c.in-Some.block.now some.0 some.1 c.if-candidate.false c.run_in.result c.run_in.ensures c.in-Some-run_in.run'
    c.in-Some-run_in.is c.args.serving.now serves)
