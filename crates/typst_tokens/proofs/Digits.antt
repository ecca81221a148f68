-- Numbers, piece by piece.
use Rattle.typst_tokens.proofs.Cited.{◌≡◌, ℕ, Bool, true, ◌==◌, if◌then◌else◌, List, length, ap, ◌∙◌, arith, encodes-chars, chars, IsUtf8, in_suffix, numbered, suffixed, with_exponent, is_i64, based, run, Sight, went_past, sight, radix_of, Token, Base}
use Rattle.typst_tokens.specs.declared.numbers.Numeral.{Numeral}
use Rattle.typst_tokens.specs.declared.numbers.Numeral.TheVariants as numeral
use Rattle.typst_kinds.specs.declared.kind.SyntaxKind.TheVariants as kind
use Rattle.typst_tokens.specs.declared.token.NumberFault.TheVariants as number_fault

pub exponent-is : (cs : List ℕ) (e : Bool) → (length cs == 0) ≡ e → with_exponent cs ≡ (if e then numeral.Invalid number_fault.Exponent else numeral.Valid kind.Float)
exponent-is cs e p = ap (λ x. if x then numeral.Invalid number_fault.Exponent else numeral.Valid kind.Float) p

abbrev by_tests : Base → Bool → Bool → Numeral
by_tests b e i = if e then numeral.Invalid (number_fault.NoDigits b) else (if i then numeral.Based b else numeral.Invalid (number_fault.WrongDigits b))

pub based-is : (b : Base) (cs : List ℕ) (e i : Bool) → (length cs == 0) ≡ e → is_i64 (radix_of b) cs ≡ i → based b cs ≡ by_tests b e i
based-is b cs e i p q = ap (λ x. by_tests b x (is_i64 (radix_of b) cs)) p ∙ ap (by_tests b e) q

pub none-based : (b : Base) (cs : List ℕ) → (length cs == 0) ≡ true → based b cs ≡ numeral.Invalid (number_fault.NoDigits b)
none-based b cs p = ap (λ x. by_tests b x (is_i64 (radix_of b) cs)) p

-- the suffix was eaten
pub suffixed-is : (n : Numeral) (v w : Sight) (text : List ℕ) (t : Token) → IsUtf8 text → chars text ≡ run in_suffix v.place → w ≡ went_past in_suffix v → t ≡ numbered n text → sight (suffixed n) v ≡ (t, w)
unfolding suffixed
suffixed-is n v w text t u e f g = grind (arith, encodes-chars)
