-- Walks over entries, from the front and from the rear.
use Rattle.typst_candidates.proofs.Cited.{◌≡◌, ℕ, zero, suc, ◌+◌, ◌-◌, ◌^◌, ◌≤◌, ◌<◌, ◌==◌, max, Bool, true, false, if◌then◌else◌, List, [], ◌∷◌, ◌++◌, length, get_or, take, drop, None, append_assoc, length-append, length-drop, drop-cons, length-take-le, refl, ap, sym, ◌∙◌, arith, take-suc, take-append_seam, drop-append_seam, nat_tests, drop_at, take_at, Note, Entry, end_of, entry_of, entries_by, last_start, is_after, rear_of, AllFit, opening_of}
use Rattle.typst_candidates.specs.declared.entry.EntryKind.TheVariants as entry_kind

-- ---- from the rear

pub end-over : (start : ℕ) (us vs : List Entry) → end_of start (us ++ vs) ≡ end_of (end_of start us) vs
end-over start [] vs = refl
end-over start (u ∷ us) vs = end-over ((start + u.step) + u.gap) us vs

pub end-append : (start : ℕ) (es : List Entry) (e : Entry) → end_of start (es ++ e ∷ []) ≡ (end_of start es + e.step) + e.gap
end-append start es e = end-over start es (e ∷ [])

end-from : (start : ℕ) (es : List Entry) → end_of start es ≡ start + end_of 0 es
end-from start [] = omega arith
end-from start (e ∷ es) = omega (arith, end-from ((start + e.step) + e.gap) es, end-from ((0 + e.step) + e.gap) es)

-- of two lists of entries, one after the other
pub end-sum : (start : ℕ) (es ds : List Entry) → end_of start (es ++ ds) ≡ end_of start es + end_of 0 ds
end-sum start es ds = end-over start es ds ∙ end-from (end_of start es) ds

counts : Bool → ℕ → ℕ
counts b n = if b then 0 else n

pub rear-append : (at start number : ℕ) (es : List Entry) (e : Entry) (back : ℕ)
    → rear_of at start number (es ++ e ∷ []) back ≡ max (rear_of at start number es e.back) (if is_after at (end_of start (es ++ e ∷ [])) back then 0 else suc (number + length es))
rear-append at start number [] e back = grind arith
rear-append at start number (d ∷ es) e back = grind (arith, rear-append at ((start + d.step) + d.gap) (suc number) es e back)

-- no more are counted than there are
pub rear-most : (at start number : ℕ) (es : List Entry) (back : ℕ) → rear_of at start number es back ≤ number + length es
rear-most at start number [] back = grind arith
rear-most at start number (e ∷ es) back = grind (arith, rear-most at ((start + e.step) + e.gap) (suc number) es back)

-- ---- an opening is looked for in order

pub opening-past : (at start number : ℕ) (es : List Entry) → at < start → opening_of at start number es ≡ None
opening-past at start number [] h = refl
opening-past at start number (e ∷ es) h =
    let here = (start + e.step) + e.gap in
    let other : (here == at) ≡ false = grind (arith, nat_tests, h) in
    let i = opening-past at here (suc number) es (omega arith) in
    rw other (grind arith)

-- ---- back by one entry

pub record Stepped (at start back number : ℕ) (es : List Entry) (e : Entry) : Type 0 where
  pub fits : e.step + e.gap ≤ start
  pub there : start - (e.step + e.gap) ≡ end_of 0 (take (number - 1) es)
  pub counts : rear_of at 0 0 (take (number - 1) es) e.back ≡ rear_of at 0 0 (take number es) back

stepped-by : (at start back n : ℕ) (es : List Entry) (d : Entry) → n < length es → start ≡ end_of 0 (take (suc n) es) → is_after at start back ≡ true
    → (let e = get_or es n d in (e.step + e.gap ≤ start) × (start - (e.step + e.gap) ≡ end_of 0 (take n es)) × (rear_of at 0 0 (take n es) e.back ≡ rear_of at 0 0 (take (suc n) es) back))
stepped-by at start back n es d lt s b =
    let e = get_or es n d in
    let cut = take-suc es n d lt in
    grind (arith, end-append, rear-append)

pub stepped : (at start back number : ℕ) (es : List Entry) (d : Entry) → 0 < number → number ≤ length es → start ≡ end_of 0 (take number es) → is_after at start back ≡ true
    → Stepped at start back number es (get_or es (number - 1) d)
stepped at start back zero es d some le s b = absurd (omega (arith, some))
stepped at start back (suc n) es d some le s b = let one : suc n - 1 ≡ n = omega arith in grind (arith, stepped-by at start back n es d (omega (arith, le)) s b)

pub blank : Entry
blank = record { kind = entry_kind.Piece false; step = 0; gap = 0; forth = 0; back = 0; count = 0 }

-- the walk back stops at an entry that isn't after the place
pub stops : (at start back number : ℕ) (es : List Entry) → 0 < number → number ≤ length es → start ≡ end_of 0 (take number es) → is_after at start back ≡ false
    → number ≡ rear_of at 0 0 (take number es) back
stops at start back zero es some le s b = absurd (omega (arith, some))
stops at start back (suc n) es some le s b =
    let e = get_or es n blank in
    let cut = take-suc es n blank le in
    grind (arith, length-take-le, rear-append, rear-most)

-- ---- one note more

pub add-step : (es now all : List Entry) (start i : ℕ) (ns : List Note) (d : Note) → i < length ns → es ++ entries_by start (drop i ns) ≡ all → now ≡ es ++ entry_of start (get_or ns i d) ∷ []
    → now ++ entries_by (get_or ns i d).start (drop (i + 1) ns) ≡ all
add-step es now all start i ns d lt h e = grind (arith, append_assoc, drop-cons ns i d lt)

pub last-step : (start all i : ℕ) (ns : List Note) (d : Note) → i < length ns → last_start start (drop i ns) ≡ all → last_start (get_or ns i d).start (drop (i + 1) ns) ≡ all
last-step start all i ns d lt h = grind (arith, drop-cons ns i d lt)

pub fits-at : (i : ℕ) (ns : List Note) (d : Note) → AllFit ns → i < length ns → (get_or ns i d).start < 2 ^ 64 - 1
fits-at i [] d h lt = absurd (omega (arith, lt))
fits-at zero (n ∷ ns) d h lt = h.0
fits-at (suc i) (n ∷ ns) d h lt = fits-at i ns d h.1 (omega (arith, lt))

-- ---- a part put in place of another

-- after the entries A stand first D and then P, then P and D, and then P, the rest of D, and what goes
pub put-is : {T : Type 0} (A P D both one two : List T) (at count gone : ℕ) → both ≡ (A ++ D) ++ P → at ≡ length A → count ≡ length A + length D → gone ≤ length D
    → one ≡ (let rest = drop at both in take at both ++ (drop (length rest - length P) rest ++ take (length rest - length P) rest))
    → two ≡ (let rest = drop (at + length P) one in take (at + length P) one ++ (drop gone rest ++ take gone rest))
    → take ((count + length P) - gone) two ≡ A ++ (P ++ drop gone D)
put-is A P D both one two at count gone e a n le f g =
    let split : both ≡ A ++ (D ++ P) = e ∙ append_assoc A D P in
    let first : take at both ≡ A = ap (take at) split ∙ take_at A (D ++ P) at (sym a) in
    let second : drop at both ≡ D ++ P = ap (drop at) split ∙ drop_at A (D ++ P) at (sym a) in
    let long : length (D ++ P) - length P ≡ length D = omega (arith, length-append D P) in
    let joined : one ≡ (A ++ P) ++ D = f ∙ simp (first, second, long, drop-append_seam, take-append_seam, append_assoc) in
    let there : length (A ++ P) ≡ at + length P = omega (arith, length-append A P) in
    let third : take (at + length P) one ≡ A ++ P = ap (take (at + length P)) joined ∙ take_at (A ++ P) D _ there in
    let fourth : drop (at + length P) one ≡ D = ap (drop (at + length P)) joined ∙ drop_at (A ++ P) D _ there in
    let two_is : two ≡ ((A ++ P) ++ drop gone D) ++ take gone D = g ∙ simp (third, fourth, append_assoc) in
    let kept : length ((A ++ P) ++ drop gone D) ≡ (count + length P) - gone = omega (arith, length-append (A ++ P) (drop gone D), length-append A P, length-drop gone D) in
    ap (take ((count + length P) - gone)) two_is ∙ take_at ((A ++ P) ++ drop gone D) (take gone D) _ kept ∙ append_assoc A P (drop gone D)

pub not-fit : (i : ℕ) (ns : List Note) (d : Note) → AllFit ns → i < length ns → (get_or ns i d).start ≡ 2 ^ 64 - 1 → ⊥
not-fit i ns d h lt e = omega (arith, fits-at i ns d h lt)
