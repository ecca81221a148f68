-- What tests of two say.
use Rattle.std.proofs.Common.{◌≡◌, Bool, true, ◌&&◌, if◌then◌else◌, arith}

pub and-first : (a b : Bool) → (a && b) ≡ true → a ≡ true
and-first a b e = grind arith

pub and-second : (a b : Bool) → (a && b) ≡ true → b ≡ true
and-second a b e = grind arith

-- what holds of both is so of the one that is picked
pub on : {A : Type 0} (P : A → Type 0) (b : Bool) (x y : A) → P x → P y → P (if b then x else y)
on P b x y p q = grind arith
