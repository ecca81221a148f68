use Rattle.typst_tokens.proofs.PairBits.{table-tells}
use Rattle.typst_tokens.proofs.markup_sets.is_plain.Goals as goal

pub returns-then-is_ascii : goal.returns-then-is_ascii
returns-then-is_ascii c = table-tells c.args.c c.if-is_ascii.ensures
