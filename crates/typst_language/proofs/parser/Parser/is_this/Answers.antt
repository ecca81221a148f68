use Rattle.std.proofs.Common.{rules}
use Rattle.typst_language.proofs.parser.Parser.is_this.Goals as goal

pub returns-then-same_rule : goal.returns-then-same_rule
returns-then-same_rule c = search rules
