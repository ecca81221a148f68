-- A token of code takes at least one character.
use Rattle.typst_tokens.proofs.Cited.{◌≡◌, ◌≤◌, ℕ, true, slice_get, ◌==◌, ◌||◌, arith, Some, is_ascii_digit, CharClasses, code, single, less, with_equals, dots, dot, equals, bang, ident, foreign, invalid, decimal, dotted, in_base, zero_first, number_token, string, Place, scout, passes, eaten, sign, label, is_id_continue, is_id_start, Base}
use Rattle.typst_tokens.proofs.CommonEats.{either, some-ahead, run-ahead}

module _ (k : CharClasses) (c : ℕ) (p : Place) (e : scout 0 p ≡ Some c) where
  invalid-eats : (d : ℕ) → 1 ≤ eaten (invalid d) p
  unfolding invalid foreign
  invalid-eats d =
      either (passes (λ x. x == 35) (slice_get p.before 0)) _ _ p (λ _. omega arith)
      (either (d == 38) _ _ p (λ _. omega arith)
      (either (d == 124) _ _ p (λ _. omega arith)
      (either (d == 126) _ _ p (λ _. omega arith) (omega arith))))

  base-eats : (b : Base) → 1 ≤ eaten (in_base b) p
  unfolding in_base
  base-eats b = omega (arith, some-ahead c p.ahead e)

  decimal-eats : is_ascii_digit c ≡ true → 1 ≤ eaten (decimal k) p
  unfolding decimal
  decimal-eats t = omega (arith, run-ahead is_ascii_digit c p.ahead e t)

  number-eats : is_ascii_digit c ≡ true → 1 ≤ eaten (number_token k c) p
  unfolding number_token zero_first
  number-eats t =
      either (c == 48) _ _ p
      (λ _. either (passes (λ x. x == 98) (scout 1 p)) _ _ p (λ _. base-eats _)
      (either (passes (λ x. x == 111) (scout 1 p)) _ _ p (λ _. base-eats _)
      (either (passes (λ x. x == 120) (scout 1 p)) _ _ p (λ _. base-eats _) (decimal-eats t))))
      (decimal-eats t)

  single-eats : 1 ≤ eaten (single k c) p
  unfolding single sign ident
  single-eats =
      either (c == 123) _ _ p (λ _. omega arith)
      (either (c == 125) _ _ p (λ _. omega arith)
      (either (c == 91) _ _ p (λ _. omega arith)
      (either (c == 93) _ _ p (λ _. omega arith)
      (either (c == 40) _ _ p (λ _. omega arith)
      (either (c == 41) _ _ p (λ _. omega arith)
      (either (c == 36) _ _ p (λ _. omega arith)
      (either (c == 44) _ _ p (λ _. omega arith)
      (either (c == 59) _ _ p (λ _. omega arith)
      (either (c == 58) _ _ p (λ _. omega arith)
      (either (is_id_start k c) _ _ p (λ _. omega arith) (invalid-eats c)))))))))))

  pub code-eats : 1 ≤ eaten (code k c) p
  unfolding code less label with_equals dot dots dotted string equals bang
  code-eats =
      either (c == 60) _ _ p (λ _. either (passes (is_id_continue k) (scout 1 p)) _ _ p (λ _. omega arith) (omega arith))
      (either (is_ascii_digit c) _ _ p number-eats
      (either (c == 46) _ _ p (λ _. either (passes is_ascii_digit (scout 1 p)) _ _ p (λ _. omega arith) (omega arith))
      (either (c == 34) _ _ p (λ _. omega arith)
      (either (c == 61) _ _ p (λ _. omega arith)
      (either (c == 33) _ _ p (λ _. either (passes (λ x. x == 61) (scout 1 p)) _ _ p (λ _. omega (arith, some-ahead c p.ahead e)) (invalid-eats 33))
      (either (c == 62) _ _ p (λ _. omega arith)
      (either (c == 43) _ _ p (λ _. omega arith)
      (either (c == 45 || c == 8722) _ _ p (λ _. omega arith)
      (either (c == 42) _ _ p (λ _. omega arith)
      (either (c == 47) _ _ p (λ _. omega arith) single-eats))))))))))
