-- Blocks of words that are passed over at once.
use Rattle.typst_candidates.proofs.Cited.{◌≡◌, ℕ, zero, suc, ◌+◌, ◌-◌, ◌/◌, ◌%◌, ◌^◌, ◌≤◌, ◌<◌, max, true, if◌then◌else◌, List, [], ◌∷◌, ◌++◌, get_or, length, length-drop, map, take, drop, Option, Some, refl, ap, sym, subst, ◌∙◌, arith, take-add, nat_tests, take-append-drop, slice_get, Entry, EntryKind, Packed, AreNear, EntryPlace, GoBack, back_after, start_at, end_of, front_of, is_after, rear_of, beside, entry_in, filled, spans, entry_kinds, unpacked, wides, opening_of}
use Rattle.typst_candidates.proofs.Cursors.{cut, end-after}
use Rattle.typst_candidates.proofs.Spans.{filled-end}
use Rattle.typst_candidates.proofs.Walks.{end-over}
use Rattle.typst_candidates.proofs.Words.{by_kind, halves, wides-append}

-- ---- what words hold

abbrev IsNear : Entry → Type 0
IsNear e = (e.forth < 2 ^ 10) × (e.back < 2 ^ 4)

near-kind : (o : Option EntryKind) (rest : ℕ) (e : Entry) → by_kind o rest ≡ Some e → IsNear e
near-kind o rest e h = grind arith

near-words : (ps : List Packed) → wides ps ≡ 0 → AreNear (unpacked ps [])
near-words [] h = tt
near-words (p ∷ ps) h = step (entry_in p) (λ e. near-kind (slice_get entry_kinds (p.word % 2 ^ 4)) (p.word / 2 ^ 4) e) (near-words ps) h
  where
    step : (o : Option Entry) → ((e : Entry) → o ≡ Some e → IsNear e) → (wides ps ≡ 0 → AreNear (unpacked ps [])) → beside o + wides ps ≡ 0 → AreNear (filled (o ∷ map entry_in ps) [])
    step o f rest n = grind arith

pub record IsBlock (es : List Entry) (n m span : ℕ) : Type 0 where
  pub span_is : (start : ℕ) → end_of start (take m (drop n es)) ≡ start + span
  pub near : AreNear (take m (drop n es))

-- words that all hold entries
pub block-of : (ps : List Packed) (ws : List Entry) (n m span : ℕ) → n + m ≤ length ps → wides ps ≡ length ws → wides (take m (drop n ps)) ≡ 0 → span ≡ spans (take m (drop n ps)) → IsBlock (unpacked ps ws) n m span
block-of ps ws n m span within h none sum =
    let k = wides (take n ps) in
    let a = halves ps ws n (omega arith) h in
    let all : wides (drop n ps) ≡ length (drop k ws) = omega (arith, ap wides (take-append-drop n ps), wides-append (take n ps) (drop n ps), length-drop k ws) in
    grind (arith, halves, length-drop, filled-end, near-words)

-- ---- passing over entries

-- of entries that end far enough before a byte all stand before it with their looks
pub front-over : (m at start : ℕ) (es : List Entry) → m ≤ length es → AreNear (take m es) → end_of start (take m es) + 2 ^ 10 ≤ at → front_of at start es ≡ m + front_of at (end_of start (take m es)) (drop m es)
front-over zero at start es h a f = omega arith
front-over (suc m) at start [] h a f = absurd (omega (arith, h))
front-over (suc m) at start (e ∷ es) h a f =
    let here = (start + e.step) + e.gap in grind (arith, nat_tests, a.0, end-after here (take m es), front-over m at here es (omega arith) a.2 f)

-- none of entries that end before a byte opens a block at it
pub opening-over : (m at start number : ℕ) (es : List Entry) → m ≤ length es → end_of start (take m es) < at → opening_of at start number es ≡ opening_of at (end_of start (take m es)) (number + m) (drop m es)
opening-over zero at start number es h f = ap (λ n. opening_of at start n es) (omega arith)
opening-over (suc m) at start number [] h f = absurd (omega (arith, h))
opening-over (suc m) at start number (e ∷ es) h f =
    let here = (start + e.step) + e.gap in grind (arith, nat_tests, end-after here (take m es), opening-over m at here (suc number) es (omega arith) f)

-- ---- passing back

far : (at start back : ℕ) → at + 2 ^ 4 ≤ start → back < 2 ^ 4 → is_after at start back ≡ true
far at start back h b = let less : at < suc start - back = omega arith in grind (arith, nat_tests)

-- where all looks begin after a byte none counts
rear-none : (at start count : ℕ) (ys : List Entry) (back : ℕ) → at + 2 ^ 4 ≤ start → AreNear ys → is_after at (end_of start ys) back ≡ true → rear_of at start count ys back ≡ 0
rear-none at start count [] back h a b = grind arith
rear-none at start count (y ∷ ys) back h a b = grind (arith, far at start y.back h a.1, rear-none at ((start + y.step) + y.gap) (suc count) ys back (omega arith) a.2 b)

-- entries whose looks begin after a byte, except for those of their first, are passed over
pub rear-over : (at start count : ℕ) (xs : List Entry) (y : Entry) (ys : List Entry) (back : ℕ) → is_after at (end_of start (xs ++ y ∷ ys)) back ≡ true → AreNear (y ∷ ys) → at + 2 ^ 4 ≤ end_of start xs
    → rear_of at start count (xs ++ y ∷ ys) back ≡ rear_of at start count xs y.back
rear-over at start count [] y ys back b a h = grind (arith, rear-none)
rear-over at start count (x ∷ xs) y ys back b a h =
    let here = (start + x.step) + x.gap in
    ap (max (if is_after at start x.back then 0 else count)) (rear-over at here (suc count) xs y ys back b a h)

pub end-block : (es : List Entry) (n m : ℕ) → end_of 0 (take (n + m) es) ≡ end_of (end_of 0 (take n es)) (take m (drop n es))
end-block es n m = ap (end_of 0) (take-add n m es) ∙ end-over 0 (take n es) (take m (drop n es))

pub rear-block : (es : List Entry) (at back n : ℕ) (e : Entry) → slice_get es n ≡ Some e → is_after at (end_of 0 (take (n + 16) es)) back ≡ true → AreNear (take 16 (drop n es)) → at + 2 ^ 4 ≤ end_of 0 (take n es)
    → rear_of at 0 0 (take (n + 16) es) back ≡ rear_of at 0 0 (take n es) e.back
rear-block es at back n e here b near h =
    let block : take 16 (drop n es) ≡ e ∷ take 15 (drop (suc n) es) = ap (take 16) (cut es n e here) in
    grind (arith, take-add, rear-over)

-- ---- far after a byte

-- what goes no further back than one number goes no further back than a larger one
pub back-more : (es : List Entry) (m n : ℕ) → m ≤ n → GoBack m es → GoBack n es
back-more [] m n h a = tt
back-more (e ∷ es) m n h a = let few = a.0 in (omega (arith, h, few), back-more es m n h a.1)

-- the first of some entries, and one more
pub back-take : (es : List Entry) (i most : ℕ) (z : Entry) → i < length es → GoBack most (take i es) → (get_or es i z).back ≤ most → GoBack most (take (suc i) es)
back-take [] i most z h a b = absurd (omega (arith, h))
back-take (e ∷ es) zero most z h a b = (b, tt)
back-take (e ∷ es) (suc i) most z h a b = (a.0, back-take es i most z (omega (arith, h)) a.1 b)

-- entries go no further back than those beside the words, or than words say
pub back-words : (ps : List Packed) (ws : List Entry) (most : ℕ) → 2 ^ 4 ≤ most → GoBack most ws → GoBack most (unpacked ps ws)
back-words [] ws most h a = tt
back-words (p ∷ ps) ws most h a = step (entry_in p) ws (λ e. near-kind (slice_get entry_kinds (p.word % 2 ^ 4)) (p.word / 2 ^ 4) e) a (λ vs. back-words ps vs most h)
  where
    step : (o : Option Entry) (vs : List Entry) → ((e : Entry) → o ≡ Some e → IsNear e) → GoBack most vs → ((us : List Entry) → GoBack most us → GoBack most (unpacked ps us)) → GoBack most (filled (o ∷ map entry_in ps) vs)
    step o vs f b rest = grind arith

-- what goes back so far does so after a place
pub back-after : (ps : List Packed) (ws : List Entry) (n passed most : ℕ) → n ≤ length ps → passed ≡ wides (take n ps) → wides ps ≡ length ws → 2 ^ 4 ≤ most → GoBack most (drop passed ws) → GoBack most (drop n (unpacked ps ws))
back-after ps ws n passed most within is h far a =
    let rest : drop n (unpacked ps ws) ≡ unpacked (drop n ps) (drop passed ws) = (halves ps ws n within h).back ∙ ap (λ k. unpacked (drop n ps) (drop k ws)) (sym is) in
    subst (GoBack most) (sym rest) (back-words (drop n ps) (drop passed ws) most far a)

-- what goes back so far does so further on
pub back-on : (es : List Entry) (m n most : ℕ) → m ≤ n → GoBack most (drop m es) → GoBack most (drop n es)
back-on [] m zero most h a = tt
back-on [] m (suc n) most h a = tt
back-on (e ∷ es) zero zero most h a = a
back-on (e ∷ es) zero (suc n) most h a = back-on es zero n most (omega arith) a.1
back-on (e ∷ es) (suc m) zero most h a = absurd (omega arith)
back-on (e ∷ es) (suc m) (suc n) most h a = back-on es m n most (omega arith) a

far-by : (at start back most : ℕ) → at + most ≤ start → back ≤ most → is_after at start back ≡ true
far-by at start back most h b = let less : at < suc start - back = omega arith in grind (arith, nat_tests)

none-after : (at start count : ℕ) (ys : List Entry) (back most : ℕ) → at + most ≤ start → GoBack most ys → back ≤ most → rear_of at start count ys back ≡ 0
none-after at start count [] back most h a b = grind (arith, far-by at start back most h b)
none-after at start count (y ∷ ys) back most h a b = grind (arith, far-by at start y.back most h a.0, none-after at ((start + y.step) + y.gap) (suc count) ys back most (omega arith) a.1 b)

-- how far back the looks of the first of some entries begin, or `back` if there is none
abbrev first_back : ℕ → List Entry → ℕ
first_back back [] = back
first_back back (y ∷ ys) = y.back

rear-cut : (at start count : ℕ) (xs ys : List Entry) (back most : ℕ) → at + most ≤ end_of start xs → GoBack most ys → back ≤ most → rear_of at start count (xs ++ ys) back ≡ rear_of at start count xs (first_back back ys)
rear-cut at start count [] [] back most h a b = refl
rear-cut at start count [] (y ∷ ys) back most h a b = grind (arith, none-after)
rear-cut at start count (x ∷ xs) ys back most h a b =
    let here = (start + x.step) + x.gap in
    ap (max (if is_after at start x.back then 0 else count)) (rear-cut at here (suc count) xs ys back most h a b)

first-at : (es : List Entry) (n back : ℕ) → first_back back (drop n es) ≡ back_after back (record { entries = es; number = n })
first-at [] zero back = refl
first-at [] (suc n) back = refl
first-at (e ∷ es) zero back = refl
first-at (e ∷ es) (suc n) back = first-at es n back

-- where a place is so far after a byte that no look after it reaches back to the byte, the rear is counted from there
pub rear-from : (es : List Entry) (at back most : ℕ) (p : EntryPlace) → p.entries ≡ es → is_after at (start_at p) most ≡ true → GoBack most (drop p.number es) → back ≤ most → rear_of at 0 0 (take p.number es) (back_after back p) ≡ rear_of at 0 0 es back
rear-from es at back most p is far a b =
    let n = p.number in
    let start : start_at p ≡ end_of 0 (take n es) = ap (λ us. end_of 0 (take n us)) is in
    let less : at + most ≤ end_of 0 (take n es) = grind (arith, nat_tests, far, start) in
    let first : back_after back p ≡ first_back back (drop n es) = ap (λ us. back_after back (record { entries = us; number = n })) is ∙ sym (first-at es n back) in
    ap (rear_of at 0 0 (take n es)) first ∙ sym (rear-cut at 0 0 (take n es) (drop n es) back most less a b) ∙ ap (λ us. rear_of at 0 0 us back) (take-append-drop n es)
