use Rattle.typst_tokens.proofs.Cited.{sym, ◌∙◌, arith, chars, none-is}
use Rattle.typst_tokens.proofs.Digits.{none-based, based-is}
use Rattle.typst_tokens.proofs.numbers.based.Goals as goal

pub returns-then-is_empty : goal.returns-then-is_empty
returns-then-is_empty c = sym (none-based c.args.base (chars c.args.digits.now) (none-is c.args.digits.now c.utf8.digits ∙ sym c.is_empty.ensures ∙ c.if-is_empty.true))

pub returns-then-is_i64 : goal.returns-then-is_i64
returns-then-is_i64 c = grind (arith, none-is, based-is)

pub returns : goal.returns
returns c = grind (arith, none-is, based-is)
