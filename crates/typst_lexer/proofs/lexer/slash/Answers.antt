use Rattle.typst_lexer.proofs.Cited.{rules, slash}
use Rattle.typst_lexer.proofs.lexer.slash.Goals as goal

pub returns-in-Some-eq42 : goal.returns-in-Some-eq42
unfolding slash
returns-in-Some-eq42 c = search rules
