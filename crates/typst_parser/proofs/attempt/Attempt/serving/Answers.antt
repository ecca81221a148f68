use Rattle.std.proofs.Common.{sym, ◌∙◌}
use Rattle.typst_parser.proofs.RunSteps.{step-begins, step-boundary}
use Rattle.typst_parser.proofs.Serving.{for-now}
use Rattle.typst_parser.proofs.attempt.Attempt.serving.Goals as goal

pub returns-in-Some-clause-begun : goal.returns-in-Some-clause-begun
returns-in-Some-clause-begun g c = λ ch path h there.
    for-now (g.C.Classes.classes c.args.self.now.asked.now.classes.now) ch c.args.self.now.root.now path c.args.candidate c.args.run h.run c.args.serving.now c.in-Some.current (sym c.take.ensures.value ∙ c.in-Some.is) h.serves

pub begin-requires-clause-boundary : goal.begin-requires-clause-boundary
begin-requires-clause-boundary g c =
    step-boundary (g.C.Classes.classes c.args.self.now.asked.now.classes.now) c.args.self.now c.requires.0 c.requires.1 c.args.candidate c.args.run c.args.serving.now c.requires.2 c.args.from.now c.requires.3

pub returns-clause-begun : goal.returns-clause-begun
returns-clause-begun g c = λ ch path h there.
    step-begins (g.C.Classes.classes c.args.self.now.asked.now.classes.now) c.args.self.now ch path c.args.candidate c.args.run c.args.serving.now h c.args.from.now there c.begin.result c.begin.ensures
