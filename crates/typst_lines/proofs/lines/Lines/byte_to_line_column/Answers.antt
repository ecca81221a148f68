use Rattle.typst_lines.proofs.Cited.{◌∙◌, ap, refl, arith, IsCharBoundary, byte_at, line_of}
use Rattle.typst_lines.proofs.RoundTrip.{line-boundary, column-at, boundary-at, column-back}
use Rattle.typst_lines.proofs.lines.Lines.byte_to_line_column.Goals as goal

pub range-requires-clause-start_boundary : goal.range-requires-clause-start_boundary
range-requires-clause-start_boundary g c _ = grind (arith, line-boundary)

pub returns-clause-value : goal.returns-clause-value
returns-clause-value g c = grind (arith, column-at, boundary-at)

pub returns-clause-back : goal.returns-clause-back
returns-clause-back g c =
    let s = c.args.self.now in
    let t = c.text-text.result.now in
    let end : IsCharBoundary t c.args.byte_idx = c.if-not-is_char_boundary.ensures.test.0 refl in
    let column = column-at s t c.text-text.utf8 c.text-text.ensures c.args.byte_idx end c.numbered_line-number.result.1 c.numbered_line-number.ensures.line c.range.result.now c.count_chars-column.result c.range.ensures.value c.count_chars-column.ensures in
    ap (λ n. byte_at s n c.count_chars-column.result) c.numbered_line-number.ensures.number ∙ ap (byte_at s (line_of s c.args.byte_idx)) column
    ∙ column-back s t c.text-text.utf8 c.text-text.ensures c.args.byte_idx end c.numbered_line-number.result.1 c.numbered_line-number.ensures.line
