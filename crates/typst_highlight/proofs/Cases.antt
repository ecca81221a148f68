-- Cases of options and tests.
use Rattle.typst_highlight.proofs.Cited.{◌≡◌, Bool, true, false, cond, Option, None, Some, arith, option_and_then, option_map}

pub bool_cases : (b : Bool) → {P : Type 0} → (b ≡ true → P) → (b ≡ false → P) → P
bool_cases b f g = grind arith

-- a choice that gave something gave it by the one side or the other
pub cond_case : {A P : Type 0} (y : Bool) (n m : A) (o : Option A) → cond y (Some n) o ≡ Some m → (y ≡ true → n ≡ m → P) → (y ≡ false → o ≡ Some m → P) → P
cond_case y n m o e f g = grind arith

pub cond_some : {A : Type 0} (y : Bool) (o : Option A) (b : A) → cond y o None ≡ Some b → (y ≡ true) × (o ≡ Some b)
cond_some y o b e = grind arith

pub then_some : {A B : Type 0} (o : Option A) (f : A → Option B) (b : B) → option_and_then f o ≡ Some b → (a : A) × ((o ≡ Some a) × (f a ≡ Some b))
then_some o f b e = grind arith

pub map_some : {A B : Type 0} (o : Option A) (f : A → B) (b : B) → option_map f o ≡ Some b → (a : A) × ((o ≡ Some a) × (f a ≡ b))
map_some o f b e = grind arith

-- two functions that agree where there is something
pub same_then : {A B : Type 0} (o : Option A) (f g : A → Option B) → ((a : A) → o ≡ Some a → f a ≡ g a) → option_and_then f o ≡ option_and_then g o
same_then o f g h = grind arith
