use Rattle.typst_lines.proofs.Cited.{◌∙◌, ap, arith, refl, IsCharBoundary, byte_at_utf16}
use Rattle.typst_lines.proofs.RoundTrip.{line-boundary, units-at, units-small, boundary-at, utf16-back}
use Rattle.typst_lines.proofs.lines.Lines.byte_to_utf16.Goals as goal

pub range-requires-clause-start_boundary : goal.range-requires-clause-start_boundary
range-requires-clause-start_boundary g c _ = grind (arith, line-boundary)

pub overflow_add-result : goal.overflow_add-result
overflow_add-result g c =
    let s = c.args.self.now in
    let t = c.text-text.result.now in
    let end : IsCharBoundary t c.args.byte_idx = c.if-not-is_char_boundary.ensures.test.0 refl in
    let sum = units-at s t c.text-text.utf8 c.text-text.ensures c.args.byte_idx end c.line_before-line.result c.line_before-line.ensures c.range.result.now c.len_utf16.result c.range.ensures.value c.len_utf16.ensures in
    omega (arith, sum, units-small s t c.text-text.utf8 c.text-text.ensures c.args.byte_idx end c.line_before-line.result c.line_before-line.ensures)

pub returns-clause-value : goal.returns-clause-value
returns-clause-value g c = grind (arith, boundary-at, units-at)

pub returns-clause-back : goal.returns-clause-back
returns-clause-back g c =
    let s = c.args.self.now in
    let t = c.text-text.result.now in
    let end : IsCharBoundary t c.args.byte_idx = c.if-not-is_char_boundary.ensures.test.0 refl in
    ap (byte_at_utf16 s) (units-at s t c.text-text.utf8 c.text-text.ensures c.args.byte_idx end c.line_before-line.result c.line_before-line.ensures c.range.result.now c.len_utf16.result c.range.ensures.value c.len_utf16.ensures)
    ∙ utf16-back s t c.text-text.utf8 c.text-text.ensures c.args.byte_idx end c.line_before-line.result c.line_before-line.ensures
