use Rattle.typst_grammar.proofs.Whole.{leaves}
use Rattle.typst_grammar.proofs.WholeCode.{leaves-code}
use Rattle.typst_grammar.proofs.WholeMath.{leaves-math}
use Rattle.typst_grammar.proofs.laws.leaves_law.Goals as goal

pub returns-clause-markup : goal.returns-clause-markup
returns-clause-markup c = leaves

pub returns-clause-code : goal.returns-clause-code
returns-clause-code c = leaves-code

pub returns-clause-math : goal.returns-clause-math
returns-clause-math c = leaves-math
