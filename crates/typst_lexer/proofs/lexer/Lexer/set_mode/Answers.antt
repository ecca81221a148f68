use Rattle.std.proofs.Common.{rules}
use Rattle.typst_lexer.proofs.lexer.Lexer.set_mode.Goals as goal

pub returns-clause-mode : goal.returns-clause-mode
returns-clause-mode c = search rules

pub returns-clause-newline : goal.returns-clause-newline
returns-clause-newline c = search rules
