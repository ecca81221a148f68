use Rattle.typst_tokens.proofs.Cited.{rules, invalid}
use Rattle.typst_tokens.proofs.invalid.invalid.Goals as goal

pub returns-then-eq : goal.returns-then-eq
unfolding invalid
returns-then-eq c = search rules

pub returns-in-38 : goal.returns-in-38
unfolding invalid
returns-in-38 c = search rules

pub returns-in-124 : goal.returns-in-124
unfolding invalid
returns-in-124 c = search rules

pub returns-in-126 : goal.returns-in-126
unfolding invalid
returns-in-126 c = search rules

pub returns-in_default : goal.returns-in_default
unfolding invalid
returns-in_default c = search rules
