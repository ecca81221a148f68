use Rattle.typst_lines.proofs.Cited.{◌∙◌, ap, sum_by, units_begun}
use Rattle.typst_lines.proofs.Counts.{units-counted}
use Rattle.typst_lines.proofs.lines.len_utf16.Goals as goal

pub returns : goal.returns
returns c = c.measured.ensures ∙ ap (sum_by units_begun) c.as_bytes.ensures.value ∙ units-counted c.args.text.now c.utf8.text
