use Rattle.std.proofs.Common.{arith}
use Rattle.typst_lines.proofs.Fronts.{front-before, front-of, link-is}
use Rattle.typst_lines.proofs.links.link_prefix.Goals as goal

pub returns : goal.returns
returns c = grind (arith, link-is, front-before, front-of)
