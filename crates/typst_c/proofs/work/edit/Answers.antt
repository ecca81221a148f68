use Rattle.std.proofs.Common.{subst}
use Rattle.typst_parser.specs.Answers.{Answers}
use Rattle.typst_parser.specs.UnicodeTables.{unicode_classes}
use Rattle.typst_c.proofs.work.edit.Goals as goal

pub returns-in-Ok-edit-clause-answer : goal.returns-in-Ok-edit-clause-answer
returns-in-Ok-edit-clause-answer c =
    subst (λ with. Answers unicode_classes c.args.source.now c.edit.new.self c.args.replace with c.in-Ok-edit.range) c.in-Ok.ensures.cases.0 c.in-Ok-edit.ensures.answer
