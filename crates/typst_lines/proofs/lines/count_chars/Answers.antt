use Rattle.typst_lines.proofs.Cited.{◌∙◌, ap, sum_by, chars_begun}
use Rattle.typst_lines.proofs.Counts.{chars-counted}
use Rattle.typst_lines.proofs.lines.count_chars.Goals as goal

pub returns : goal.returns
returns c = c.measured.ensures ∙ ap (sum_by chars_begun) c.as_bytes.ensures.value ∙ chars-counted c.args.text.now c.utf8.text
