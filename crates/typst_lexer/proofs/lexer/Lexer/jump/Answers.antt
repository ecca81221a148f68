use Rattle.std.proofs.Common.{rules}
use Rattle.typst_lexer.proofs.lexer.Lexer.jump.Goals as goal

pub returns-clause-place : goal.returns-clause-place
returns-clause-place c = search rules

pub returns-clause-cursor : goal.returns-clause-cursor
returns-clause-cursor c = search rules
