use Rattle.typst_lexer.proofs.Cited.{arith, encodes-chars}
use Rattle.typst_lexer.proofs.Accesses.{field-is}
use Rattle.typst_lexer.proofs.fields.field_node.Goals as goal

pub returns : goal.returns
returns c = grind (arith, field-is, encodes-chars)
