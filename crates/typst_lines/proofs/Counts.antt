-- Characters and UTF-16 units, counted by the bytes of UTF-8 that begin them.
use Rattle.typst_lines.proofs.Cited.{◌≡◌, ℕ, zero, suc, ◌+◌, ◌-◌, ◌/◌, ◌%◌, ◌<◌, ◌≤◌, true, false, List, [], ◌∷◌, ◌++◌, length, take, drop, drop_at, length-append, slice_range, take-add, get_or, refl, sym, ap, subst, ◌∙◌, arith, nat_lt, cases_lt, nat_tests, encodes-chars, chars-append, IsUtf8-take, IsUtf8-drop, IsCharBoundary-from_rest, sum_by, chars, IsUtf8, IsCharBoundary, chars_begun, units_begun, IsOfFirst, units, utf16_len, utf16_before, least_place, IsLineUpTo, Place, place_at, Line, sum_by-append, sum_by_more, sum_by-take-le, encode, encode_utf8_all}
use Rattle.std.proofs.lemmas.List.{take-take}
use Rattle.typst_lines.proofs.LineTable.{units-append, bytes-append, bytes-front, chars-split}
use Rattle.typst_lines.proofs.PlaceLemmas.{chars-ahead}
use Rattle.typst_lines.proofs.RoundTrip.{HasPassed, reach, reach-from, overshot, overshot-low, units-before, upto-boundary, upto-units}

chars-low : (b : ℕ) → b < 128 → chars_begun b ≡ 1
chars-low b lt = grind (arith, nat_tests)

chars-lead : (b : ℕ) → 192 ≤ b → chars_begun b ≡ 1
chars-lead b le = grind (arith, nat_tests)

chars-next : (b : ℕ) → 128 ≤ b → b < 192 → chars_begun b ≡ 0
chars-next b le lt = grind (arith, nat_tests)

units-low : (b : ℕ) → b < 128 → units_begun b ≡ 1
units-low b lt = grind (arith, nat_tests)

units-lead : (b : ℕ) → 192 ≤ b → b < 240 → units_begun b ≡ 1
units-lead b le lt = grind (arith, nat_tests)

units-pair : (b : ℕ) → 240 ≤ b → units_begun b ≡ 2
units-pair b le = grind (arith, nat_tests)

units-next : (b : ℕ) → 128 ≤ b → b < 192 → units_begun b ≡ 0
units-next b le lt = grind (arith, nat_tests)

one-unit : (c : ℕ) → c < 65536 → utf16_len c ≡ 1
one-unit c lt = grind (arith, nat_tests)

two-units : (c : ℕ) → 65536 ≤ c → utf16_len c ≡ 2
two-units c le = grind (arith, nat_tests)

pub below : (c n : ℕ) → c < n → nat_lt c n ≡ true
below c n lt = grind (arith, nat_tests)

above : (c n : ℕ) → n ≤ c → nat_lt c n ≡ false
above c n le = grind (arith, nat_tests)

abbrev cont : ℕ → ℕ
cont n = 128 + n % 64

module _ (c : ℕ) where
  encode-1 : c < 128 → encode c ≡ c ∷ []
  unfolding encode
  encode-1 lt = rw (below c 128 lt) refl

  encode-2 : 128 ≤ c → c < 2048 → encode c ≡ (192 + c / 64) ∷ cont c ∷ []
  unfolding encode
  encode-2 le lt = rw (above c 128 le, below c 2048 lt) refl

  encode-3 : 2048 ≤ c → c < 65536 → encode c ≡ (224 + c / 4096) ∷ cont (c / 64) ∷ cont c ∷ []
  unfolding encode
  encode-3 le lt = rw (above c 128 (omega arith), above c 2048 le, below c 65536 lt) refl

  encode-4 : 65536 ≤ c → encode c ≡ (240 + c / 262144) ∷ cont (c / 4096) ∷ cont (c / 64) ∷ cont c ∷ []
  unfolding encode
  encode-4 le = rw (above c 128 (omega arith), above c 2048 (omega arith), above c 65536 le) refl

  chars-one : sum_by chars_begun (encode c) ≡ 1
  chars-one = grind (arith, cases_lt, encode-1, chars-low, encode-2, chars-lead, chars-next, encode-3, encode-4)

  units-one : sum_by units_begun (encode c) ≡ utf16_len c
  units-one = grind (arith, cases_lt, encode-1, units-low, one-unit, encode-2, units-lead, units-next, encode-3, encode-4, units-pair, two-units)

chars-all : (cs : List ℕ) → sum_by chars_begun (encode_utf8_all cs) ≡ length cs
chars-all [] = refl
chars-all (c ∷ cs) = omega (arith, chars-all cs, chars-one c, sum_by-append chars_begun (encode c) (encode_utf8_all cs))

units-all : (cs : List ℕ) → sum_by units_begun (encode_utf8_all cs) ≡ units cs
units-all [] = refl
units-all (c ∷ cs) = omega (arith, units-all cs, units-one c, sum_by-append units_begun (encode c) (encode_utf8_all cs))

-- so the bytes of a text tell how many there are
module _ (s : List ℕ) (u : IsUtf8 s) where
  pub chars-counted : sum_by chars_begun s ≡ length (chars s)
  chars-counted = ap (sum_by chars_begun) (sym (encodes-chars s u)) ∙ chars-all (chars s)

  pub units-counted : sum_by units_begun s ≡ units (chars s)
  units-counted = ap (sum_by units_begun) (sym (encodes-chars s u)) ∙ units-all (chars s)

module _ (w : ℕ → ℕ) (first : IsOfFirst w) (s : List ℕ) where
  no-start : (i : ℕ) → i < length s → (IsCharBoundary s i → ⊥) → w (get_or s i 0) ≡ 0
  no-start i lt none = grind arith

  -- up to the next boundary it stays what it is
  same-inside : (at n : ℕ) → at + n ≤ length s → ((i : ℕ) → at ≤ i → i < at + n → IsCharBoundary s i → ⊥) → sum_by w (take (at + n) s) ≡ sum_by w (take at s)
  same-inside at zero room none = let e : at + 0 ≡ at = omega arith in ap (λ k. sum_by w (take k s)) e
  same-inside at (suc n) room none =
      let more : at + n + 1 ≡ at + suc n = omega arith in
      ap (λ k. sum_by w (take k s)) (sym more)
      ∙ omega (arith, sum_by_more w s (at + n) 0 (omega arith), no-start (at + n) (omega arith) (none (at + n) (omega arith) (omega arith)), same-inside at n (omega arith) (λ i from to. none i from (omega arith)))

  pub to-boundary : (at end : ℕ) → at ≤ end → end ≤ length s → ((i : ℕ) → at ≤ i → i < end → IsCharBoundary s i → ⊥) → sum_by w (take end s) ≡ sum_by w (take at s)
  to-boundary at end le room none = let sum : at + (end - at) ≡ end = omega arith in grind (arith, same-inside)

-- what more bytes add
pub sum-range : (w : ℕ → ℕ) (s : List ℕ) (at n : ℕ) → sum_by w (take (at + n) s) ≡ sum_by w (take at s) + sum_by w (slice_range s at (at + n))
sum-range w s at n = grind (arith, take-add, sum_by-append)

pub sum-front : (w : ℕ → ℕ) (s : List ℕ) (i j : ℕ) → i ≤ j → sum_by w (take i s) ≤ sum_by w (take j s)
sum-front w s i j le = omega (arith, sum_by-take-le w (take j s) i, ap (sum_by w) (take-take i j s le))

-- ---- from a boundary that is near what is looked for

-- so many characters stand before it
pub HasPassed-front : (s t : List ℕ) → IsUtf8 s → t ≡ s → (at n : ℕ) (p : Place) → IsCharBoundary s at → n ≡ sum_by chars_begun (take at s) → p ≡ place_at s at → HasPassed (chars t) n at p
HasPassed-front s t u same at n p bound is here =
    let size : n ≡ length (chars (take at s)) = is ∙ chars-counted (take at s) (IsUtf8-take s at u bound) in
    let ahead : p.ahead ≡ chars (drop at s) = ap (λ q. q.ahead) here ∙ sym (chars-ahead s at) in
    let whole : chars t ≡ chars (take at s) ++ chars (drop at s) = ap chars same ∙ chars-split s u at bound in
    grind (arith, drop_at, length-append, bytes-append, bytes-front)

-- so many units stand before it, counted from a line on
module _ (s t : List ℕ) (v : IsUtf8 t) (same : t ≡ s) (u : ℕ) (l : Line) (of : IsLineUpTo s u l) (rest : List ℕ) (is : rest ≡ drop l.byte_idx t)
    (near n : ℕ) (at : IsCharBoundary rest near) (counted : n ≡ sum_by units_begun (take near rest)) (few : n ≤ u - l.utf16_idx) where
  start : IsCharBoundary t l.byte_idx
  start = upto-boundary s t v same u l of

  inside : IsCharBoundary (drop l.byte_idx t) near
  inside = subst (λ x. IsCharBoundary x near) is at

  pub near-boundary : IsCharBoundary t (l.byte_idx + near)
  near-boundary = IsCharBoundary-from_rest t l.byte_idx near start.0 inside

  part : n ≡ units (chars (take near (drop l.byte_idx t)))
  part = counted ∙ ap (λ x. sum_by units_begun (take near x)) is ∙ units-counted (take near (drop l.byte_idx t)) (IsUtf8-take (drop l.byte_idx t) near (IsUtf8-drop t l.byte_idx v start) inside)

  before : utf16_before t (l.byte_idx + near) ≡ l.utf16_idx + n
  before =
      let first : utf16_before t l.byte_idx ≡ l.utf16_idx = sym (units-before t l.byte_idx) ∙ upto-units s t v same u l of in
      let both : chars (take (l.byte_idx + near) t) ≡ chars (take l.byte_idx t) ++ chars (take near (drop l.byte_idx t)) =
      ap chars (take-add l.byte_idx near t) ∙ chars-append (take l.byte_idx t) (take near (drop l.byte_idx t)) (IsUtf8-take t l.byte_idx v start) in
      omega (arith, ap units both, units-append (chars (take l.byte_idx t)) (chars (take near (drop l.byte_idx t))), first, part)

  pub near-units : units (place_at t (l.byte_idx + near)).before ≡ l.utf16_idx + n
  near-units = units-before t (l.byte_idx + near) ∙ before

  pub near-reach : reach u (place_at t (l.byte_idx + near)) ≡ least_place s u
  near-reach = reach-from t v (l.byte_idx + near) u near-boundary (omega (arith, before, few, of.before)) ∙ ap (λ x. least_place x u) same

  pub near-before : overshot u (place_at t (l.byte_idx + near)) ≡ false
  near-before = overshot-low u (place_at t (l.byte_idx + near)) (omega (arith, near-units, few, of.before))
