use Rattle.std.proofs.Common.{rules}
use Rattle.typst_lexer.proofs.raw.closed_node.Goals as goal

pub returns : goal.returns
returns c = search rules
