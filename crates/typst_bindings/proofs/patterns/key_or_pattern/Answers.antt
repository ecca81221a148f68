use Rattle.typst_bindings.proofs.Cited.{does-next, does-gives, does-pick, does-other, key_or_pattern}
use Rattle.typst_bindings.proofs.patterns.key_or_pattern.Goals as goal

pub returns-then-is_key : goal.returns-then-is_key
unfolding key_or_pattern
returns-then-is_key g c l h = does-next (c.in_ok-is_key.ensures l h) (does-next (does-pick c.if-is_key.true does-gives) does-gives)

pub returns : goal.returns
unfolding key_or_pattern
returns g c l h = does-next (c.in_ok-is_key.ensures l h) (does-next (does-other c.if-is_key.false (c.in_ok-seen.ensures l h)) does-gives)
