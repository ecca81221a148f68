use Rattle.typst_tokens.proofs.Links.{link-prefix-is}
use Rattle.typst_tokens.proofs.link_laws.links_are_prefixes.Goals as goal

pub returns : goal.returns
returns c = link-prefix-is
