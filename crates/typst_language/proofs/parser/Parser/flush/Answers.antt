use Rattle.typst_language.proofs.Cited.{common_steps, ◌≡◌, ℕ, ◌-◌, arith}
use Rattle.typst_language.proofs.parser.Parser.flush.Goals as goal

none : (n : ℕ) → n - n ≡ 0
none n = omega arith

pub returns-then-is_none : goal.returns-then-is_none
returns-then-is_none c l = grind (arith, common_steps)

pub returns : goal.returns
returns c l = grind (arith, common_steps)
