use Rattle.typst_highlight.proofs.Cited.{◌≡◌, ◌+◌, refl, arith, slice_index_or}
use Rattle.std.proofs.lemmas.Nat.{le_or_l, le_or_r}
use Rattle.typst_highlight.proofs.Escapes.{plain_more}
use Rattle.typst_highlight.proofs.entities.are_unmarked.Goals as goal

pub loop-at-preserved : goal.loop-at-preserved
loop-at-preserved c = λ e.
    let earlier : c.loop-at.marks ≡ 0 = omega (arith, e, le_or_l c.loop-at.marks c.mark-marks.result) in
    let last : c.mark-marks.result ≡ 0 = omega (arith, e, le_or_r c.loop-at.marks c.mark-marks.result) in
    let byte = slice_index_or c.args.bytes.now c.loop-at.at 0 in
    plain_more c.args.bytes.now 0 c.loop-at.at (c.loop-at.at + 1) byte (omega arith) c.loop-at-test.true refl refl (c.mark-marks.ensures last) (c.loop-at.invariant earlier)
