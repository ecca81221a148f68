use Rattle.typst_grammar.proofs.Knot.{binding-markup, binding-code, binding-math}
use Rattle.typst_grammar.proofs.binding_laws.binding_law.Goals as goal

pub returns-clause-markup : goal.returns-clause-markup
returns-clause-markup c = binding-markup

pub returns-clause-code : goal.returns-clause-code
returns-clause-code c = binding-code

pub returns-clause-math : goal.returns-clause-math
returns-clause-math c = binding-math
