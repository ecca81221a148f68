use Rattle.typst_report.proofs.Cited.{◌≡◌, ◌∙◌, ◌<◌, Some, None, ap, sym, arith, length, slice_get, line_table, slice_get-get_or}
use Rattle.std.specs.String.{string_bytes}
use Rattle.typst_report.proofs.PrintedLemmas.{rows-printed}
use Rattle.typst_report.proofs.lines.answer.Goals as goal
use Rattle.typst_report.proofs.lines.answer.Goals.{in-Some+in_ok-push_row, in_default}

pub loop-number-preserved : goal.loop-number-preserved
loop-number-preserved c =
    let n = c.loop-number.number in
    let table = line_table c.args.text.now in elim c.match-line.branch [
      | in-Some+in_ok-push_row w ↦
          let at : slice_get table n ≡ Some w.in-Some.line = ap (λ t. slice_get (line_table t) n) (sym c.in_ok-lines.ensures) ∙ sym w.in-Some.ensures.value in
          rows-printed n table w.in-Some.line (string_bytes c.loop-number.printed) (string_bytes c.match-line.printed) _ at c.loop-number.invariant (ap string_bytes w.printed-is ∙ w.in_ok-push_row.ensures)
      | in_default w ↦
          let below : n < c.len_lines-number-end.result = c.loop-number-test.true in
          let within : n < length (line_table c.in_ok-lines.lines) = omega (arith, below, c.len_lines-number-end.ensures) in
          let bad : None ≡ Some _ = w.in_default.ensures.value ∙ slice_get-get_or _ n (record { byte_idx = 0; utf16_idx = 0 }) within in absurd (cc)
    ]
