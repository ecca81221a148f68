use Rattle.typst_lexer.proofs.Cited.{arith, read-is, text-is, text-read}
use Rattle.typst_lexer.proofs.lexer.token.Goals as goal

pub returns-clause-scans : goal.returns-clause-scans
returns-clause-scans g c = grind arith

pub returns-clause-line_text : goal.returns-clause-line_text
returns-clause-line_text g c = grind (arith, read-is, text-read, text-is)
