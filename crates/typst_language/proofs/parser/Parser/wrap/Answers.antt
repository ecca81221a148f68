use Rattle.std.proofs.Common.{rules}
use Rattle.typst_language.proofs.parser.Parser.wrap.Goals as goal

pub returns-clause-empty : goal.returns-clause-empty
returns-clause-empty c = search rules
