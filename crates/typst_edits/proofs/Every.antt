-- What holds of each element of a list, and small facts of lists and numbers.
use Rattle.typst_edits.proofs.Cited.{◌≡◌, ℕ, suc, ◌<◌, ◌≤◌, Bool, true, false, if◌then◌else◌, List, [], ◌∷◌, ◌++◌, map, Option, None, Some, refl, arith, le_antisymm, lt_of_not-le, flat_map}
pub use Rattle.typst_edits.specs.Every.{Every}

pub every-append : {X : Type 0} (P : X → Type 0) (xs ys : List X) → Every P xs → Every P ys → Every P (xs ++ ys)
every-append P [] ys h k = k
every-append P (x ∷ xs) ys h k = (h.0, every-append P xs ys h.1 k)

pub every-by : {X : Type 0} {P Q : X → Type 0} → ((x : X) → P x → Q x) → (xs : List X) → Every P xs → Every Q xs
every-by f [] h = tt
every-by f (x ∷ xs) h = (f x h.0, every-by f xs h.1)

pub every-map : {X Y : Type 0} (P : X → Type 0) (Q : Y → Type 0) (f : X → Y) → ((x : X) → P x → Q (f x)) → (xs : List X) → Every P xs → Every Q (map f xs)
every-map P Q f g [] h = tt
every-map P Q f g (x ∷ xs) h = (g x h.0, every-map P Q f g xs h.1)

pub every-flat : {X Y : Type 0} (P : X → Type 0) (Q : Y → Type 0) (f : X → List Y) → ((x : X) → P x → Every Q (f x)) → (xs : List X) → Every P xs → Every Q (flat_map f xs)
every-flat P Q f g [] h = tt
every-flat P Q f g (x ∷ xs) h = every-append Q (f x) (flat_map f xs) (g x h.0) (every-flat P Q f g xs h.1)

pub every-if : {X : Type 0} (P : X → Type 0) (b : Bool) (xs ys : List X) → (b ≡ true → Every P xs) → (b ≡ false → Every P ys) → Every P (if b then xs else ys)
every-if P true xs ys h k = h refl
every-if P false xs ys h k = k refl

pub every-any : {X : Type 0} (xs : List X) → Every (λ x. Unit {0}) xs
every-any [] = tt
every-any (x ∷ xs) = (tt, every-any xs)

-- the first of several, and what is there, or another one
abbrev pub first_or : {A : Type 0} → A → List A → A
first_or x [] = x
first_or x (y ∷ ys) = y

abbrev pub some_or : {A : Type 0} → A → Option A → A
some_or x None = x
some_or x (Some y) = y

pub not-less : (m n : ℕ) → (n < m → ⊥) → m ≤ n
not-less m n h = let l : m < suc n = lt_of_not-le h in omega (arith, l)

pub neither : (a b : ℕ) → (a < b → ⊥) → (b < a → ⊥) → a ≡ b
neither a b f g = le_antisymm (not-less a b g) (not-less b a f)
