use Rattle.std.proofs.Common.{take_at, arith}
use Rattle.typst_styles.proofs.TokenLists.{list_replaced}
use Rattle.typst_styles.proofs.token_list.TokenList.replaced.Goals as goal

pub returns : goal.returns
returns c = grind (arith, take_at, list_replaced)
