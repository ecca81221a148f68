-- What is eaten of a run, and by one of two readers.
use Rattle.typst_tokens.proofs.Cited.{◌≡◌, ◌≤◌, ℕ, Bool, true, false, List, [], ◌∷◌, length, slice_get, if◌then◌else◌, ◌==◌, refl, ap, ◌∙◌, arith, Some, nat_tests, prefix_len, Place, scout, Reader, eaten}

pub either : {M A : Type 0} (b : Bool) (x y : Reader M A) (p : Place) → (b ≡ true → 1 ≤ eaten x p) → 1 ≤ eaten y p → 1 ≤ eaten (if b then x else y) p
either true x y p h i = h refl
either false x y p h i = i

pub some-ahead : (c : ℕ) (ahead : List ℕ) → slice_get ahead 0 ≡ Some c → 1 ≤ length ahead
some-ahead c [] e = absurd (cc)
some-ahead c (d ∷ ahead) e = omega arith

pub run-ahead : (test : ℕ → Bool) (c : ℕ) (ahead : List ℕ) → slice_get ahead 0 ≡ Some c → test c ≡ true → 1 ≤ prefix_len test ahead
run-ahead test c [] e t = absurd (cc)
run-ahead test c (d ∷ ahead) e t = grind arith

pub line-eats : (test : ℕ → Bool) (c d : ℕ) (p : Place) → scout 0 p ≡ Some c → (c == d) ≡ true → test d ≡ true → 1 ≤ prefix_len test p.ahead
line-eats test c d p e t h = let same : c ≡ d = grind (arith, nat_tests) in run-ahead test c p.ahead e (ap test same ∙ h)
