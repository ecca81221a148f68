use Rattle.std.proofs.Common.{rules}
use Rattle.typst_language.proofs.parser.Parser.resume.Goals as goal

pub returns-clause-place : goal.returns-clause-place
returns-clause-place c = search rules
