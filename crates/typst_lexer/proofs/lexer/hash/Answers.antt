use Rattle.typst_lexer.proofs.Cited.{rules, hash}
use Rattle.typst_lexer.proofs.lexer.hash.Goals as goal

pub returns-then-eq : goal.returns-then-eq
unfolding hash
returns-then-eq c = search rules

pub returns : goal.returns
unfolding hash
returns c = search rules
