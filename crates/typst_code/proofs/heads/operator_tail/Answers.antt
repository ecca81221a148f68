use Rattle.typst_code.proofs.Cited.{◌≡◌, Bool, false, if◌then◌else◌, arith, is-not, CodeTail}
use Rattle.typst_code.proofs.heads.operator_tail.Goals as goal

neither : (d n : Bool) (x y z r : CodeTail) → d ≡ false → n ≡ false → r ≡ z → r ≡ (if d then x else (if n then y else z))
neither d n x y z r e f h = grind arith

pub returns-then-ne : goal.returns-then-ne
returns-then-ne c = grind (arith, neither, is-not)
