use Rattle.typst_language.proofs.Blocks.{does-block, fills-apart}
use Rattle.typst_markup.proofs.references.read_content.Goals as goal

pub returns : goal.returns
returns g c l h b = does-block b.content (c.in_ok-open_block.ensures l h) (c.in_ok-content_block.ensures _ (fills-apart h)) (c.in_ok-close_block.ensures l h)
