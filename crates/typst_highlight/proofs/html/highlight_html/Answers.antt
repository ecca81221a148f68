use Rattle.std.proofs.Common.{arith}
use Rattle.typst_highlight.proofs.Outlets.{html_root}
use Rattle.typst_highlight.proofs.Reading.{text_read}
use Rattle.typst_highlight.proofs.html.highlight_html.Goals as goal

pub returns-clause-html : goal.returns-clause-html
returns-clause-html c = grind (arith, html_root)

pub returns-clause-shown : goal.returns-clause-shown
returns-clause-shown c = grind (arith, html_root, text_read)
