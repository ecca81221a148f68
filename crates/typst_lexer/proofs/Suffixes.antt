-- A number and its suffix.
use Rattle.typst_lexer.proofs.Cited.{◌≡◌, ℕ, List, [], drop, refl, ap, ◌∙◌, Option, Some, None, arith, encodes-chars, chars, IsUtf8, Place, place_at, moved, without_suffix, suffix_of, value_of, number_message, number_hints, message, hints, radix_of, Number}
use Rattle.typst_tokens.specs.Reader.{place}
use Rattle.typst_tokens.specs.declared.token.NumberFault.{NumberFault}
use Rattle.typst_tokens.specs.Characters.{number}
use Rattle.typst_tokens.specs.declared.token.Base.{Base}

pub start-of : (text : List ℕ) → place_at text 0 ≡ place [] (chars text)
unfolding place_at chars
start-of text = refl

-- ---- the digits of a base

pub second-on : (p : Place) → (moved 1 (moved 1 p)).ahead ≡ drop 2 p.ahead
second-on p = grind arith

abbrev or_zero : Option ℕ → ℕ
or_zero o = elim o [ Some n ↦ n | None ↦ 0 ]

pub value-is : (b : Base) (r : ℕ) (ds cs : List ℕ) (o : Option ℕ) → o ≡ number r ds → r ≡ radix_of b → ds ≡ drop 2 cs → or_zero o ≡ value_of b (drop 2 cs)
value-is b r ds cs o e f g = ap or_zero (e ∙ ap (λ x. number x ds) f ∙ ap (number (radix_of b)) g)

-- what is said of a number, by its pieces
pub said : (f : NumberFault) (taken before suffix : List ℕ) → IsUtf8 before → IsUtf8 suffix → chars before ≡ without_suffix f taken → chars suffix ≡ suffix_of f taken
    → (number_message f before suffix ≡ message (Number f) taken) × (number_hints f (chars before) suffix ≡ hints (Number f) taken)
said f taken before suffix u v b s = grind (arith, encodes-chars)
