use Rattle.typst_highlight.proofs.Cited.{◌+◌, ◌∙◌, refl, arith, slice_index_or}
use Rattle.typst_highlight.proofs.Escapes.{plain_more}
use Rattle.typst_highlight.proofs.Pages.{before_put, byte_put}
use Rattle.typst_highlight.proofs.page.put_few.Goals as goal

pub loop-index-preserved : goal.loop-index-preserved
loop-index-preserved c =
    let bytes = c.args.bytes.now in
    let page = c.loop-index.page in
    let index = c.loop-index.index in
    let byte = slice_index_or bytes index 0 in
    let so_far = c.loop-index.invariant in
    record {
      kept = before_put page c.args.at (c.args.at + index) byte (omega arith) ∙ so_far.kept;
      written = byte_put page _ bytes c.args.at index byte (omega (arith, c.requires, c.loop-index-test.true, c.told-page)) c.loop-index-test.true refl so_far.written;
      plain = plain_more bytes 0 index (index + 1) byte (omega arith) c.loop-index-test.true refl refl (c.if-has_entity.ensures refl) so_far.plain;
    }
