use Rattle.typst_lexer.proofs.Cited.{arith, before_colon, named_argument, before_spread, spread_argument, primes, atom, by_class, single, math_from, math, after_name, named, name, sign, string, backslash}
use Rattle.typst_lexer.specs.Atoms.{cluster, number, text}
use Rattle.typst_lexer.specs.Shorthands.{hyphen, tilde, colon, equals, greater, less_short, less_middle, less, bar, bracket, bang, dot, several}
use Rattle.typst_lexer.proofs.math_laws.looks_of_math.Goals as goal

pub returns : goal.returns
unfolding string before_colon named_argument before_spread spread_argument cluster number text primes atom by_class single math_from math after_name named name hyphen tilde colon equals greater less_short less_middle less bar bracket bang dot several sign backslash
returns c = grind arith
