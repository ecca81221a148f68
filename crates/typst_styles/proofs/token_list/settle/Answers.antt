use Rattle.std.proofs.Common.{arith}
use Rattle.typst_styles.proofs.TokenLists.{part_some, settled_some}
use Rattle.typst_styles.proofs.token_list.settle.Goals as goal

pub returns-else-index-settled-clause-settled : goal.returns-else-index-settled-clause-settled
returns-else-index-settled-clause-settled c =
    settled_some _ _ c.args.index _ _ (omega arith) c.requires.within (part_some _ _ c.args.index _ c.shift_all-else-index-settled.new.tokens (omega arith) c.shift_all-else-index-settled.ensures)
