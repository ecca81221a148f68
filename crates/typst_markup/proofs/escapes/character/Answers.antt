use Rattle.typst_markup.proofs.Cited.{common_steps, ◌≡◌, ℕ, Bool, true, false, if◌then◌else◌, nat_lt, List, length, Option, Some, None, sym, arith, character, InScalarRange, OutOfScalarRange, IsScalar, MatchOption, SomeIff}
use Rattle.std.proofs.lemmas.Bool.Decides.{nat_tests}
use Rattle.typst_language.proofs.SpelledNumbers.{some-chars, no-chars}
use Rattle.typst_language.specs.Characters.{is_scalar, number, number_after}
use Rattle.typst_markup.proofs.escapes.character.Goals as goal

-- the value of what a test lets pass
chosen : (b : Bool) (n x : ℕ) → Some n ≡ (if b then Some x else None) → n ≡ x
chosen b n x e = grind arith

in-range : (n : ℕ) → InScalarRange n → is_scalar n ≡ true
in-range n h = grind (arith, nat_tests)

out-of-range : (n : ℕ) → OutOfScalarRange n → is_scalar n ≡ false
out-of-range n h = grind (arith, nat_tests)

of-scalar : (n x : ℕ) (r : Option ℕ) → n ≡ x → MatchOption r (OutOfScalarRange n) (λ _. InScalarRange n) → SomeIff r (IsScalar n) n → r ≡ (if is_scalar n then Some x else None)
of-scalar n x r same range value = grind (arith, common_steps)

named : (cs : List ℕ) (n : ℕ) (r : Option ℕ) → nat_lt 0 (length cs) ≡ true → Some n ≡ number 16 cs
    → MatchOption r (OutOfScalarRange n) (λ _. InScalarRange n) → SomeIff r (IsScalar n) n → r ≡ character cs
named cs n r some e range value = rw (some, sym e) (of-scalar n (number_after 16 0 cs) r (chosen _ n _ e) range value)

unnamed : (cs : List ℕ) → length cs ≡ 0 → None ≡ character cs
unnamed cs e = grind arith

pub returns-then-is_empty : goal.returns-then-is_empty
returns-then-is_empty c = grind (arith, nat_tests, unnamed, no-chars)

pub returns : goal.returns
returns c = grind (arith, nat_tests, some-chars)
