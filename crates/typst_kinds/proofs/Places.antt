-- Each kind has its row at its place, and each place below the number of kinds is that of a kind.
use Rattle.typst_kinds.proofs.Cited.{◌≡◌, ℕ, zero, suc, ◌+◌, ◌<◌, List, [], ◌∷◌, length, map, get_or, Option, Some, refl, ap, sym, ◌∙◌, arith, zero-add, get_or-map, same_Some, none-some, slice_get-map, slice_get_within, option_copied, option_map, slice_get, place_of, SyntaxKind, slice_get_past, slice_get-get_or}
use Rattle.std.proofs.lemmas.List.FromFn.{get_or-range_with_len}
use Rattle.std.specs.Borrow.{Bor}
use Rattle.std.specs.List.{range_with_len}
use Rattle.std.specs.Slice.{IsItemAt}
use Rattle.typst_kinds.specs.declared.kind.SyntaxKind.TheVariants as kind
use Rattle.typst_kinds.specs.declared.kind.TheConstants.{ROWS}

pub get_is : {A : Type 0} (xs : List A) (n : ℕ) (d x : A) → slice_get xs n ≡ Some x → get_or xs n d ≡ x
get_is [] n d x e = absurd (none-some x e)
get_is (y ∷ xs) zero d x e = same_Some y x e
get_is (y ∷ xs) (suc n) d x e = get_is xs n d x e

-- what `get` lends, if it lends something
pub got : {A : Type 0} (xs : List A) (n : ℕ) (r : Option (Bor A)) → IsItemAt xs n r → option_copied r ≡ slice_get xs n
got xs n r h = grind (arith, slice_get_past, slice_get-get_or)

-- elements whose numbers rise one by one
pub numbered : {A : Type 0} (f : A → ℕ) (xs : List A) (a count n : ℕ) (x : A) → map f xs ≡ range_with_len a count → length xs ≡ count → slice_get xs n ≡ Some x → f x ≡ a + n
numbered f xs a count n x rising many e =
    let small : n < count = omega (arith, slice_get_within xs n x e, many) in
    sym (ap f (get_is xs n x x e))
    ∙ (sym (get_or-map f xs n x)
    ∙ (ap (λ ns. get_or ns n (f x)) rising
    ∙ get_or-range_with_len a count n (f x) small))

-- the kinds in the order of their rows
unfoldable pub kinds : List SyntaxKind
kinds = map (λ r. r.0) ROWS.now

kinds_rise : map place_of kinds ≡ range_with_len 0 137
unfolding kinds place_of
kinds_rise = refl

all_kinds : length kinds ≡ 137
unfolding kinds
all_kinds = refl

pub kind_here : (k : SyntaxKind) → slice_get kinds (place_of k) ≡ Some k
unfolding kinds place_of
kind_here k = grind arith

-- the first part of the row that `get` lends, if it lends one
pub lent : {A B : Type 0} (rows : List (A × B)) (n : ℕ) (row : Option (Bor (A × B))) (firsts : List A) → IsItemAt rows n row → map (λ r. r.0) rows ≡ firsts → option_map (λ r. r.now.0) row ≡ slice_get firsts n
lent rows n row firsts h e = grind (arith, got, slice_get-map)

pub kind_there : (n : ℕ) (k : SyntaxKind) → slice_get kinds n ≡ Some k → place_of k ≡ n
kind_there n k e = numbered place_of kinds 0 137 n k kinds_rise all_kinds e ∙ zero-add n

-- each place below the number of kinds is that of a kind
pub kind_with : (n : ℕ) → n < 137 → (k : SyntaxKind) × (place_of k ≡ n)
kind_with n l =
    let found = some_at kinds n (omega (arith, l, all_kinds)) in
    (found.0, kind_there n found.0 found.1)
  where
    some_at : {A : Type 0} (xs : List A) (n : ℕ) → n < length xs → (x : A) × (slice_get xs n ≡ Some x)
    some_at [] n h = absurd (omega (arith, h))
    some_at (x ∷ xs) zero h = (x, refl)
    some_at (x ∷ xs) (suc n) h = some_at xs n (omega (arith, h))

pub placed : (k : SyntaxKind) → place_of k < 137
unfolding place_of
placed k = grind arith
