use Rattle.typst_highlight.proofs.Cited.{◌+◌, refl, arith, slice_index_or}
use Rattle.typst_highlight.proofs.Escapes.{plain_more}
use Rattle.typst_highlight.proofs.entities.are_itself.Goals as goal

pub loop-at-preserved : goal.loop-at-preserved
loop-at-preserved c =
    let byte = slice_index_or c.args.bytes.now c.loop-at.at 0 in
    plain_more c.args.bytes.now 0 c.loop-at.at (c.loop-at.at + 1) byte (omega arith) c.loop-at-test.true refl refl (c.if-has_entity.ensures refl) c.loop-at.invariant
