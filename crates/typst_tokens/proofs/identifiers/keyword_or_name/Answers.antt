use Rattle.typst_tokens.proofs.Cited.{rules, keyword_or_name}
use Rattle.typst_tokens.proofs.identifiers.keyword_or_name.Goals as goal

pub returns : goal.returns
unfolding keyword_or_name
returns c = search rules
