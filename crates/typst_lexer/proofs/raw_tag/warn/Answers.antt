use Rattle.std.proofs.Common.{arith}
use Rattle.typst_lexer.proofs.Tags.{warned-only, warned-not}
use Rattle.typst_lexer.proofs.raw_tag.warn.Goals as goal

pub returns-in_ok-warn_only_tag : goal.returns-in_ok-warn_only_tag
returns-in_ok-warn_only_tag c = grind (arith, warned-only)

pub returns-else-is_whole : goal.returns-else-is_whole
returns-else-is_whole c = grind (arith, warned-not)
