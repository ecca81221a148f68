use Rattle.typst_report.proofs.Cited.{◌+◌, ap, sym, subst, ◌∙◌, IsUtf8}
use Rattle.typst_report.proofs.PlaceLemmas.{base_line, line_found, line_is_found}
use Rattle.typst_report.proofs.place.LineColumn.line_start.Goals as goal

pub returns-in-Some : goal.returns-in-Some
returns-in-Some c =
    let of = line_found _ c.args.byte c.args.number c.in-Some.line c.requires.number (sym c.line.ensures.value ∙ c.in-Some.is) in
    base_line _ (subst IsUtf8 c.text-text.ensures c.text-text.utf8) c.args.byte c.requires.boundary c.in-Some.line of _ _ c.byte_idx.ensures (ap (λ n. n + 1) c.requires.number)

pub returns-in-None : goal.returns-in-None
returns-in-None c = absurd (line_is_found c.args.lines.now c.args.byte c.args.number c.requires.number (sym c.in-None.is ∙ c.line.ensures.value))
