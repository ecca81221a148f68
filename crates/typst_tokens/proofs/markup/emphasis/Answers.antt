use Rattle.typst_tokens.proofs.Cited.{rules, emphasis}
use Rattle.typst_tokens.proofs.markup.emphasis.Goals as goal

pub returns-then-is_word-2 : goal.returns-then-is_word-2
unfolding emphasis
returns-then-is_word-2 c = search rules

pub returns : goal.returns
unfolding emphasis
returns c = search rules
