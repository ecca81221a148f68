use Rattle.typst_lexer.proofs.Cited.{ap, ◌∙◌, saw}
use Rattle.typst_lexer.proofs.FieldNames.{saw-further}
use Rattle.typst_lexer.proofs.math_names.field_follows.Goals as goal

pub returns-clause-sight : goal.returns-clause-sight
returns-clause-sight g c = c.second-after.ensures.sight ∙ ap (saw 2) c.peek-next.ensures.sight ∙ saw-further c.args.s.now
