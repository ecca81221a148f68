use Rattle.typst_parser.proofs.Cited.{common_steps, ◌≡◌, Some, subst, arith, encodes-chars, Tree, leaves, numbered_in}
use Rattle.typst_parser.proofs.Fresh.{fresh-text, fresh-numbers}
use Rattle.typst_parser.proofs.source.parse_whole.Goals as goal

pub returns-in_err-number-clause-refused : goal.returns-in_err-number-clause-refused
returns-in_err-number-clause-refused g c = grind arith

pub returns-clause-tree : goal.returns-clause-tree
returns-clause-tree g c = subst (λ (t : Tree). numbered_in c.args.file t ≡ Some c.number.new.root) c.in-Ok.ensures.tree c.in_ok-number.ensures.numbers

pub returns-clause-leaves : goal.returns-clause-leaves
returns-clause-leaves g c = grind (arith, fresh-text, leaves, encodes-chars)

pub returns-clause-numbers : goal.returns-clause-numbers
returns-clause-numbers g c = fresh-numbers c.args.file c.in-Ok.whole.tree _ c.in_ok-number.ensures.numbers c.in_ok-number.ensures.order

pub returns-clause-placed : goal.returns-clause-placed
returns-clause-placed g c = grind (arith, common_steps)

pub returns-clause-units : goal.returns-clause-units
returns-clause-units g c = record { are = c.in-Ok.ensures.units; fits = c.in-Ok.ensures.fits }
