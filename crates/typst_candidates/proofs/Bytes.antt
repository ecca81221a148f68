-- Bytes that rise: where the pieces of a run begin.
use Rattle.typst_candidates.proofs.Cited.{◌≡◌, ℕ, zero, suc, ◌<◌, ◌≤◌, Bool, true, false, if◌then◌else◌, List, [], ◌∷◌, length, get_or, Option, None, Some, Result, refl, ap, sym, ◌∙◌, arith, eq-eqb, cases_lt, nat_tests, Entry, is_among, MatchResult, is_ok, IsNonDecreasing, ◌==◌, ◌||◌}
use Rattle.typst_candidates.specs.Cursors.{inside_after, leads, pieces_of, token_at}

-- ---- whether a byte is among them

among-at : (b : ℕ) (xs : List ℕ) (i : ℕ) → i < length xs → get_or xs i 0 ≡ b → is_among b xs ≡ true
among-at b [] i h e = absurd (omega (arith, h))
among-at b (x ∷ xs) zero h e = rw (eq-eqb b x (sym e))
among-at b (x ∷ xs) (suc i) h e = let later = among-at b xs i (omega arith) e in grind arith

among-none : (b : ℕ) (xs : List ℕ) → ((k : ℕ) → k < length xs → b ≡ get_or xs k 0 → ⊥) → is_among b xs ≡ false
among-none b [] h = refl
among-none b (x ∷ xs) h =
    let ne : b ≡ x → ⊥ = h 0 (omega arith) in
    let no : (b == x) ≡ false = grind (arith, nat_tests) in
    ap (λ t. t || is_among b xs) no ∙ among-none b xs (λ k w. h (suc k) (omega (arith, w)))

-- what a search by halves finds
pub found-among : (b : ℕ) (xs : List ℕ) (r : Result ℕ ℕ)
    → MatchResult r (λ i. (i < length xs) × (get_or xs i 0 ≡ b)) (λ i. (i ≤ length xs) × ((k : ℕ) → k < i → get_or xs k 0 < b) × ((k : ℕ) → i ≤ k → k < length xs → b < get_or xs k 0))
    → is_ok r ≡ is_among b xs
found-among b xs r h = grind (arith, among-at, among-none, cases_lt)

-- ---- they rise

abbrev pub RiseFrom : ℕ → List ℕ → Type 0
RiseFrom least [] = Unit {0}
RiseFrom least (b ∷ bs) = (least ≤ b) × RiseFrom b bs

rise-sooner : (a b : ℕ) (xs : List ℕ) → a ≤ b → RiseFrom b xs → RiseFrom a xs
rise-sooner a b [] h r = tt
rise-sooner a b (x ∷ xs) h r = let least = r.0 in (omega (arith, h, least), r.1)

pieces-rise : (inside start : ℕ) (es : List Entry) → RiseFrom start (pieces_of inside start es)
pieces-rise inside start [] = tt
pieces-rise inside start (e ∷ es) = step (leads e.kind inside) (inside_after e.kind inside) (λ further. pieces-rise further (token_at start e) es)
  where
    step : (b : Bool) (o : Option ℕ) → ((further : ℕ) → RiseFrom (token_at start e) (pieces_of further (token_at start e) es))
        → RiseFrom start (let after = elim o as (λ _. List ℕ) [ None ↦ [] | Some further ↦ pieces_of further (token_at start e) es ] in if b then token_at start e ∷ after else after)
    step b o rest = grind (arith, rise-sooner)

least-first : (a : ℕ) (xs : List ℕ) (k d : ℕ) → RiseFrom a xs → k < length xs → a ≤ get_or xs k d
least-first a [] k d r h = absurd (omega (arith, h))
least-first a (x ∷ xs) zero d r h = r.0
least-first a (x ∷ xs) (suc k) d r h = let rest = least-first x xs k d r.1 (omega (arith, h)) in let first = r.0 in omega (arith, rest, first)

in-order : (a : ℕ) (xs : List ℕ) → RiseFrom a xs → IsNonDecreasing xs
in-order a [] r i j d o h = absurd (omega (arith, h))
in-order a (x ∷ xs) r zero zero d o h = omega arith
in-order a (x ∷ xs) r zero (suc j) d o h = least-first x xs j d r.1 (omega (arith, h))
in-order a (x ∷ xs) r (suc i) zero d o h = absurd (omega (arith, o))
in-order a (x ∷ xs) r (suc i) (suc j) d o h = in-order x xs r.1 i j d (omega (arith, o)) (omega (arith, h))

pub pieces-in-order : (inside start : ℕ) (es : List Entry) → IsNonDecreasing (pieces_of inside start es)
pieces-in-order inside start es = in-order start (pieces_of inside start es) (pieces-rise inside start es)
