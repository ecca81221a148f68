-- A token of code isn't the end.
use Rattle.typst_language.proofs.Cited.{◌≡◌, ℕ, Bool, false, ◌==◌, if◌then◌else◌, List, ◌∷◌, length, Option, Some, None, refl, arith, SyntaxKind, CharClasses, Reader, spanned, answer, skip, is_unit, sign, Memory, Token, is_end, is_ascii_digit, is_id_continue, label, blank, comment, fence, brackets, quoted, encode_utf8_all}
use Rattle.typst_kinds.specs.declared.kind.SyntaxKind.TheVariants as kind
use Rattle.typst_lines.specs.Place.{Place, scout, passes, moved, run, past}
use Rattle.typst_tokens.specs.declared.token.Base.{Base}
use Rattle.typst_tokens.specs.Code.{code, single, less, with_equals, dots, dot, equals, bang}
use Rattle.typst_tokens.specs.Identifiers.{keyword, named, keyword_or_name, ident}
use Rattle.typst_tokens.specs.Invalid.{foreign, invalid}
use Rattle.typst_tokens.specs.Numbers.{in_suffix, numbered, suffixed, exponent_digits, signed_digits, exponent, fraction, is_i64, whole, decimal, dotted, in_base, zero_first, number_token}
use Rattle.typst_tokens.specs.Strings.{in_string, string_end, string}
use Rattle.typst_tokens.specs.declared.numbers.Numeral.{Numeral}
use Rattle.typst_tokens.specs.declared.numbers.Numeral.TheVariants as numeral
use Rattle.typst_language.proofs.Goes.{Goes, goes-if, token-if, word-goes}

sign-goes : (alone both : SyntaxKind) (p : Place) → is_end alone ≡ false → is_end both ≡ false → Goes (with_equals alone both) p
unfolding with_equals
sign-goes alone both p h i = goes-if (passes (λ c. c == 61) (scout 0 (moved 1 p))) _ _ (moved 1 p) i h

less-goes : (k : CharClasses) (p : Place) → Goes (less k) p
unfolding less label
less-goes k p = grind (arith, goes-if, sign-goes)

-- ---- numbers

-- a number is no end, whatever its suffix
abbrev Fine : Numeral → Type 0
Fine n = (suffix : List ℕ) → is_end (numbered n suffix).kind ≡ false

valid-fine : (s : SyntaxKind) → is_end s ≡ false → Fine (numeral.Valid s)
valid-fine s h suffix = token-if (length suffix == 0) _ _ h (token-if (is_unit suffix) _ _ refl refl)

based-fine : (b : Base) → Fine (numeral.Based b)
based-fine b suffix = token-if (length suffix == 0) _ _ refl refl

fine-if : (b : Bool) (m n : Numeral) → Fine m → Fine n → Fine (if b then m else n)
fine-if b m n h i = grind arith

suffix-goes : (n : Numeral) (p : Place) → Fine n → Goes (suffixed n) p
unfolding suffixed
suffix-goes n p h = h (encode_utf8_all (run in_suffix p))

digits-goes : (p : Place) → Goes exponent_digits p
unfolding exponent_digits
digits-goes p = grind (arith, suffix-goes, fine-if, valid-fine)

signed-goes : (p : Place) → Goes signed_digits p
unfolding signed_digits
signed-goes p = grind (arith, goes-if, digits-goes)

exponent-goes : (n : Numeral) (p : Place) → Fine n → Goes (exponent n) p
unfolding exponent
exponent-goes n p h = grind (arith, word-goes, suffix-goes, goes-if, signed-goes)

fraction-goes : (k : CharClasses) (n : Numeral) (p : Place) → Fine n → Goes (fraction k n) p
unfolding fraction
fraction-goes k n p h = grind (arith, word-goes, exponent-goes, goes-if, valid-fine)

kind-fine : (b : Bool) → Fine (numeral.Valid (if b then kind.Int else kind.Float))
kind-fine b = grind arith

decimal-goes : (k : CharClasses) (p : Place) → Goes (decimal k) p
unfolding decimal
decimal-goes k p = fraction-goes k (whole (run is_ascii_digit p)) (past is_ascii_digit p) (kind-fine (is_i64 10 (run is_ascii_digit p)))

dotted-goes : (p : Place) → Goes dotted p
unfolding dotted
dotted-goes p = exponent-goes (numeral.Valid kind.Float) (past is_ascii_digit (moved 1 p)) (valid-fine kind.Float refl)

base-goes : (b : Base) (p : Place) → Goes (in_base b) p
unfolding in_base
base-goes b p = grind (arith, suffix-goes, fine-if, based-fine)

number-goes : (k : CharClasses) (c : ℕ) (p : Place) → Goes (number_token k c) p
unfolding number_token zero_first
number-goes k c p = grind (arith, goes-if, base-goes, decimal-goes)

-- ---- strings and names

string-end-goes : (m : Memory) → is_end (string_end m).kind ≡ false
string-end-goes blank = refl
string-end-goes (comment a b) = refl
string-end-goes (fence a b) = refl
string-end-goes (brackets cs) = refl
string-end-goes (quoted e) = refl

pub string-goes : (p : Place) → Goes string p
unfolding string
string-goes p = string-end-goes (spanned in_string (quoted false) (moved 1 p).before (moved 1 p).ahead).1

-- a keyword is no end
abbrev IsWord : Option SyntaxKind → Type 0
IsWord None = Unit {0}
IsWord (Some k) = is_end k ≡ false

keyword-fine : (name : List ℕ) → IsWord (keyword name)
keyword-fine name = grind arith

word-or-name-goes : (rest : List ℕ) (s : SyntaxKind) (p : Place) → is_end s ≡ false → Goes (keyword_or_name rest s) p
unfolding keyword_or_name
word-or-name-goes rest s p h = grind arith

name-goes : (name : List ℕ) → is_end (named name).kind ≡ false
name-goes name = grind arith

found-goes : (rest name : List ℕ) (o : Option SyntaxKind) (p : Place) → IsWord o
    → Goes (elim o as (λ _. Reader Memory Token) [ Some found ↦ keyword_or_name rest found | None ↦ skip (length rest) (answer (named name)) ]) p
found-goes rest name o p h = grind (arith, name-goes, word-or-name-goes)

ident-goes : (k : CharClasses) (c : ℕ) (p : Place) → Goes (ident k c) p
unfolding ident
ident-goes k c p =
    let q = moved 1 p in
    let rest = run (is_id_continue k) q in
    found-goes rest (c ∷ encode_utf8_all rest) (keyword (c ∷ encode_utf8_all rest)) q (keyword-fine (c ∷ encode_utf8_all rest))

invalid-goes : (d : ℕ) (p : Place) → Goes (invalid d) p
unfolding invalid foreign
invalid-goes d p = grind arith

-- ---- signs

single-goes : (k : CharClasses) (c : ℕ) (p : Place) → Goes (single k c) p
unfolding single sign
single-goes k c p = grind (arith, goes-if, ident-goes, invalid-goes)

equals-goes : (p : Place) → Goes equals p
unfolding equals
equals-goes p = grind arith

dot-goes : (p : Place) → Goes dot p
unfolding dot dots
dot-goes p = grind (arith, goes-if, dotted-goes)

bang-goes : (p : Place) → Goes bang p
unfolding bang
bang-goes p = goes-if (passes (λ x. x == 61) (scout 1 p)) _ _ p refl (invalid-goes 33 p)

pub code-goes : (k : CharClasses) (c : ℕ) (p : Place) → Goes (code k c) p
unfolding code
code-goes k c p = grind (arith, goes-if, less-goes, number-goes, dot-goes, string-goes, equals-goes, bang-goes, sign-goes, single-goes)
