use Rattle.typst_language.proofs.Blocks.{does-block, fills-apart}
use Rattle.typst_code.proofs.sequences.read_code.Goals as goal

pub returns : goal.returns
returns g c l h b = does-block b.code (c.in_ok-open_block.ensures l h) (c.in_ok-code_block.ensures _ (fills-apart h)) (c.in_ok-close_block.ensures l h)
