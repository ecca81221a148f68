use Rattle.typst_tokens.proofs.Cited.{sym, ◌∙◌, chars, none-is}
use Rattle.typst_tokens.proofs.Digits.{exponent-is}
use Rattle.typst_tokens.proofs.numbers.with_exponent.Goals as goal

pub returns-then-is_empty : goal.returns-then-is_empty
returns-then-is_empty c = sym (exponent-is (chars c.args.digits.now) _ (none-is c.args.digits.now c.utf8.digits ∙ sym c.is_empty.ensures ∙ c.if-is_empty.true))

pub returns : goal.returns
returns c = sym (exponent-is (chars c.args.digits.now) _ (none-is c.args.digits.now c.utf8.digits ∙ sym c.is_empty.ensures ∙ c.if-is_empty.false))
