use Rattle.typst_tokens.proofs.Cited.{rules, hyphen}
use Rattle.typst_tokens.proofs.markup.hyphen.Goals as goal

pub returns-in-Some : goal.returns-in-Some
unfolding hyphen
returns-in-Some c = search rules
