-- What words ask for, and the numbers among them.
use Rattle.std.proofs.Common.{◌≡◌, ◌≢◌, ℕ, ◌<◌, ◌^◌, Bool, true, false, ◌&&◌, nat_lt, List, [], ◌∷◌, length, get_or, map, Option, Some, None, Result, MatchResult, Ok, Err, Bor, refl, sym, ap, subst, ◌∙◌, arith, lt-ltb, ltb-true, if◌then◌else◌}
use Rattle.std.proofs.lemmas.Bool.{false_from_ne_true, and_parts, cond-false}
use Rattle.std.proofs.lemmas.Str.Parse.{IsNumeralModel, numerals_by_value, tells_all_ascii_digits, without_leading_plus_none}
use Rattle.std.specs.Str.{all_ascii_digits}
use Rattle.std.specs.Str.Parse.{AllDigits, IsNumeral, ParsesUnsigned, digits_value, without_leading_plus}
use Rattle.typst_cli.specs.Asked.{asked_by, number_named}

-- one word or four ask for something
pub asked_other : (ws : List (Bor (List ℕ))) → length ws ≢ 1 → length ws ≢ 4 → None ≡ asked_by (map (λ w. w.now) ws)
asked_other [] a b = refl
asked_other (w ∷ []) a b = absurd (a refl)
asked_other (w ∷ x ∷ []) a b = refl
asked_other (w ∷ x ∷ y ∷ []) a b = refl
asked_other (w ∷ x ∷ y ∷ z ∷ []) a b = absurd (b refl)
asked_other (w ∷ x ∷ y ∷ z ∷ v ∷ ws) a b = refl

own : IsNumeralModel (λ ds. all_ascii_digits ds ≡ true) (digits_value 10)
own = numerals_by_value (λ ds. all_ascii_digits ds ≡ true) tells_all_ascii_digits

parsed : {E : Type 0} (w : List ℕ) (r : Result ℕ E) → without_leading_plus w ≡ w → ParsesUnsigned 64 10 w r → MatchResult r (λ n. number_named w ≡ Some n) (λ _. number_named w ≡ None)
parsed w (Ok n) e h =
    let value : n ≡ digits_value 10 w = rw e at h.1 in
    let numeral : IsNumeral 10 w = subst (IsNumeral 10) e h.0.0 in
    let fits : digits_value 10 w < 2 ^ 64 = rw e at h.0.1 in
    rw (lt-ltb _ _ numeral.0, own.from w numeral.1, lt-ltb _ _ fits) (ap (λ k. Some k) (sym value))
parsed w (Err e) plain h = cond-false _ _ _ (false_from_ne_true _ (λ all.
    let outer = and_parts (nat_lt 0 (length w) && all_ascii_digits w) _ all in
    let inner = and_parts (nat_lt 0 (length w)) _ outer.0 in
    h (subst (λ ds. IsNumeral 10 ds × (digits_value 10 ds < 2 ^ 64)) (sym plain) ((ltb-true 0 _ inner.0, own.to w inner.1), ltb-true _ _ outer.1))))

-- what `parse` answers at a word without a plus is its number
pub number-parsed : {E : Type 0} (w : List ℕ) (r : Result ℕ E) → get_or w 0 0 ≢ 43 → ParsesUnsigned 64 10 w r → MatchResult r (λ n. number_named w ≡ Some n) (λ _. number_named w ≡ None)
number-parsed w r plain h = parsed w r (without_leading_plus_none w plain) h
