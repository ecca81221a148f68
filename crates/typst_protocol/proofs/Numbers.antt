-- Numbers that digits write.
use Rattle.typst_protocol.proofs.Cited.{◌≡◌, ◌≢◌, ℕ, ◌<◌, ◌^◌, true, ◌&&◌, nat_lt, List, length, get_or, Some, None, Result, MatchResult, Ok, Err, sym, ap, subst, lt-ltb, ltb-true, and_parts, cond-false, false_from_ne_true, IsUtf8, all_ascii_digits, number, IsNumeralModel, numerals_by_value, tells_all_ascii_digits, without_leading_plus_none, IsNumeral, ParsesUnsigned, digits_value, without_leading_plus}
use Rattle.std.proofs.lemmas.Str.{IsUtf8-from_ascii}
use Rattle.std.proofs.lemmas.Fmt.{IsAscii-from_digits}

pub own : IsNumeralModel (λ ds. all_ascii_digits ds ≡ true) (digits_value 10)
own = numerals_by_value (λ ds. all_ascii_digits ds ≡ true) tells_all_ascii_digits

parsed : {E : Type 0} (w : List ℕ) (r : Result ℕ E) → without_leading_plus w ≡ w → ParsesUnsigned 64 10 w r → MatchResult r (λ n. number w ≡ Some n) (λ _. number w ≡ None)
parsed w (Ok n) e h =
    let value : n ≡ digits_value 10 w = rw e at h.1 in
    let numeral : IsNumeral 10 w = subst (IsNumeral 10) e h.0.0 in
    let fits : digits_value 10 w < 2 ^ 64 = rw e at h.0.1 in
    rw (lt-ltb _ _ numeral.0, own.from w numeral.1, lt-ltb _ _ fits) (ap (λ k. Some k) (sym value))
parsed w (Err e) plain h = cond-false _ _ _ (false_from_ne_true _ (λ all.
    let outer = and_parts (nat_lt 0 (length w) && all_ascii_digits w) _ all in
    let inner = and_parts (nat_lt 0 (length w)) _ outer.0 in
    h (subst (λ ds. IsNumeral 10 ds × (digits_value 10 ds < 2 ^ 64)) (sym plain) ((ltb-true 0 _ inner.0, own.to w inner.1), ltb-true _ _ outer.1))))

-- what `parse` answers at bytes without a plus is their number
pub number-parsed : {E : Type 0} (w : List ℕ) (r : Result ℕ E) → get_or w 0 0 ≢ 43 → ParsesUnsigned 64 10 w r → MatchResult r (λ n. number w ≡ Some n) (λ _. number w ≡ None)
number-parsed w r plain h = parsed w r (without_leading_plus_none w plain) h

-- what isn't UTF-8 is no number
pub number-none : (w : List ℕ) → ¬ (IsUtf8 w) → number w ≡ None
number-none w bad =
    let digits = nat_lt 0 (length w) && all_ascii_digits w in
    let small = nat_lt (digits_value 10 w) (2 ^ 64) in
    cond-false (digits && small) (Some (digits_value 10 w)) None (false_from_ne_true (digits && small) (λ all.
    bad (IsUtf8-from_ascii w (IsAscii-from_digits w (own.to w (and_parts (nat_lt 0 (length w)) (all_ascii_digits w) (and_parts digits small all).0).1)))))
