use Rattle.std.proofs.Common.{Some, ap, arith, sym, ◌∙◌}
use Rattle.typst_styles.proofs.TokenLists.{token_moved, token_settled}
use Rattle.typst_styles.proofs.token_list.token_at.Goals as goal

pub returns-then-index-settled : goal.returns-then-index-settled
returns-then-index-settled c = token_settled c.args.settled c.args.distance c.args.tokens.now c.args.index _ c.if-index-settled.true c.requires

pub returns-else-index-settled : goal.returns-else-index-settled
returns-else-index-settled c = token_moved c.args.settled c.args.distance c.args.tokens.now c.args.index _ (omega arith) c.requires ∙ ap (λ t. Some t) (sym c.wrapped.ensures)
