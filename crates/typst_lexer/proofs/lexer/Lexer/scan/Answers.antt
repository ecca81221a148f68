use Rattle.typst_lexer.proofs.Cited.{arith, place, exec-moved}
use Rattle.typst_lexer.proofs.TokenEats.{token-eats}
use Rattle.typst_lexer.proofs.lexer.Lexer.scan.Goals as goal

pub since-text-requires-clause-after : goal.since-text-requires-clause-after
since-text-requires-clause-after g c = grind (arith, exec-moved)

pub returns-clause-characters : goal.returns-clause-characters
returns-clause-characters g c = grind (arith, exec-moved)

pub returns-clause-goes_on : goal.returns-clause-goes_on
returns-clause-goes_on g c = token-eats (g.C.Classes.classes c.args.self.now.classes.now) c.args.self.now.mode (place c.args.self.now.at.s)

pub returns-in_err-read-clause-goes_on : goal.returns-in_err-read-clause-goes_on
returns-in_err-read-clause-goes_on g c = token-eats (g.C.Classes.classes c.args.self.now.classes.now) c.args.self.now.mode (place c.args.self.now.at.s)
