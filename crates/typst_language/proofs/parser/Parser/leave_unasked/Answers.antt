use Rattle.std.proofs.Common.{rules}
use Rattle.typst_language.proofs.parser.Parser.leave_unasked.Goals as goal

pub returns-then-not-same_mode : goal.returns-then-not-same_mode
returns-then-not-same_mode c = search rules
