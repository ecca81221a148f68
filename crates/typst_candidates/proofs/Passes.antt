-- Passes over all entries, from the first on or from the last.
use Rattle.typst_candidates.proofs.Cited.{◌≡◌, ℕ, zero, suc, ◌+◌, ◌-◌, ◌≤◌, ◌<◌, ◌==◌, ◌&&◌, true, false, if◌then◌else◌, List, length, get_or, take, drop, Option, None, Some, refl, ap, sym, ◌∙◌, arith, nat_tests, get_or_from_slice_get, slice_get-get_or, slice_get, Entry, EntryPlace, before, entry_before, last_of, start_at, end_of, front_of, is_after, rear_of, is_opening, opening_of}
use Rattle.typst_candidates.proofs.Cursors.{cut}
use Rattle.typst_candidates.proofs.Walks.{blank, stepped, stops}

-- ---- how many stand before a byte

pub front-on : (es : List Entry) (at start n : ℕ) (e : Entry) → slice_get es n ≡ Some e → ((start + e.step) + e.gap) + e.forth ≤ at → front_of at start (drop n es) ≡ suc (front_of at ((start + e.step) + e.gap) (drop (suc n) es))
front-on es at start n e h near = grind (arith, nat_tests, cut)

-- ---- the first opening at a byte

pub opening-on : (es : List Entry) (at start n here : ℕ) (e : Entry) → slice_get es n ≡ Some e → here ≡ (start + e.step) + e.gap
    → opening_of at start n (drop n es) ≡ (if is_opening e.kind && here == at then Some n else opening_of at here (suc n) (drop (suc n) es))
opening-on es at start n here e h s = rw (cut es n e h, s)

pub same-place : (at left : ℕ) → left ≤ at → ((at - left) == at) ≡ (left == 0)
same-place at left h = grind (arith, nat_tests)

-- ---- where the last token begins

-- ---- from which one on all looks begin after a byte

pub record Stepped-back (es : List Entry) (at back : ℕ) (p now : EntryPlace) (e : Entry) : Type 0 where
  pub entries : now.entries ≡ es
  pub within : now.number ≤ length es
  pub less : now.number < p.number
  pub counts : rear_of at 0 0 (take now.number es) e.back ≡ rear_of at 0 0 (take p.number es) back

rear-by : (es : List Entry) (at back n : ℕ) (e : Entry) → ◌≡◌ {A = Option Entry} (Some e) (last_of n es) → n ≤ length es → is_after at (end_of 0 (take n es)) back ≡ true
    → Stepped-back es at back (record { entries = es; number = n }) (record { entries = es; number = n - 1 }) e
rear-by es at back zero e h le b = absurd (cc)
rear-by es at back (suc m) e h le b =
    let one : suc m - 1 ≡ m = omega arith in
    let same : get_or es (suc m - 1) e ≡ e = ap (λ k. get_or es k e) one ∙ get_or_from_slice_get es m e e (sym h) in
    grind (arith, stepped at (end_of 0 (take (suc m) es)) back (suc m) es e (omega arith) le refl b)

pub rear-step : (es : List Entry) (at back : ℕ) (p now : EntryPlace) (e : Entry) → p.entries ≡ es → p.number ≤ length es → ◌≡◌ {A = Option Entry} (Some e) (entry_before p) → now ≡ before p → is_after at (start_at p) back ≡ true
    → Stepped-back es at back p now e
rear-step es at back p now e a le h m b = grind (arith, rear-by)

-- before the first, no look is left
rear-first : (es : List Entry) (at back n : ℕ) → last_of n es ≡ None → n ≤ length es → 0 ≡ rear_of at 0 0 (take n es) back
rear-first es at back zero h le = grind arith
rear-first es at back (suc m) h le = let there = slice_get-get_or es m blank le in absurd (cc)

pub rear-none : (es : List Entry) (at back : ℕ) (p : EntryPlace) → p.entries ≡ es → p.number ≤ length es → ◌≡◌ {A = Option Entry} None (entry_before p) → 0 ≡ rear_of at 0 0 (take p.number es) back
rear-none es at back p a le h = rear-first es at back p.number (ap (last_of p.number) (sym a) ∙ sym h) le

rear-last : (es : List Entry) (at back n : ℕ) → n ≤ length es → is_after at (end_of 0 (take n es)) back ≡ false → n ≡ rear_of at 0 0 (take n es) back
rear-last es at back zero le b = grind arith
rear-last es at back (suc m) le b = stops at (end_of 0 (take (suc m) es)) back (suc m) es (omega arith) le refl b

pub rear-stop : (es : List Entry) (at back : ℕ) (p : EntryPlace) → p.entries ≡ es → p.number ≤ length es → is_after at (start_at p) back ≡ false → p.number ≡ rear_of at 0 0 (take p.number es) back
rear-stop es at back p a le b = rear-last es at back p.number le (ap (λ us. is_after at (end_of 0 (take p.number us)) back) (sym a) ∙ b)
