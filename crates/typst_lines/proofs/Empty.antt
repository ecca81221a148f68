-- Texts without characters.
use Rattle.typst_lines.proofs.Cited.{◌≡◌, ℕ, ◌==◌, List, [], ◌∷◌, length, encode_utf8_all, refl, sym, ap, ◌∙◌, arith, nat_tests, encodes-chars, chars-nil, chars, IsUtf8}

-- a text without bytes has no characters
pub none-is : (text : List ℕ) → IsUtf8 text → (length (chars text) == 0) ≡ (length text == 0)
none-is [] u = ap (λ t. length t == 0) chars-nil
none-is (b ∷ text) u = cases (chars (b ∷ text)) refl
  where
    cases : (cs : List ℕ) → chars (b ∷ text) ≡ cs → (length cs == 0) ≡ (length (b ∷ text) == 0)
    cases [] f = let none : b ∷ text ≡ [] = sym (encodes-chars (b ∷ text) u) ∙ ap encode_utf8_all f in absurd (cc)
    cases (c ∷ cs) f = grind (arith, nat_tests)
