use Rattle.std.proofs.Common.{arith}
use Rattle.typst_highlight.proofs.Reading.{text_first}
use Rattle.typst_report.proofs.html.answer.Goals as goal

pub returns-clause-shown : goal.returns-clause-shown
returns-clause-shown g c = grind (arith, text_first)
