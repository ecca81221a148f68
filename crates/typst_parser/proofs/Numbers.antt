-- Numbers of entries.
use Rattle.typst_parser.proofs.Cited.{◌≡◌, ℕ, suc, ◌+◌, ◌-◌, ◌≤◌, ◌<◌, ◌==◌, ◌&&◌, ◌^◌, max, Bool, true, false, if◌then◌else◌, List, [], ◌∷◌, length, length-drop, take, drop, Option, Some, None, refl, ap, ◌∙◌, arith, same_Some, CharClasses, width, Log, Entry, closing_of, inside_after, leads, piece_of, token_at, end_of, entries_by, is_after, last_start, rear_of, units_of, AllFit, IsRising, is_opening, opening_of, log, entries_in, listed, BeginsAt, in-order-law, Note, Written, nested-law, rising-law}
use Rattle.typst_candidates.proofs.Nested.{token-of}
use Rattle.typst_edits.specs.Rising.{Rising}

-- ---- where they stand

ends-last : (start : ℕ) (ns : List Note) → IsRising start ns → end_of start (entries_by start ns) ≡ last_start start ns
ends-last start [] r = refl
ends-last start (n ∷ ns) r = ap (λ x. end_of x (entries_by n.start ns)) (token-of start n r.0 r.1) ∙ ends-last n.start ns r.2

last-within : (start from end : ℕ) (ns : List Note) → start ≤ end → Rising from end ns → last_start start ns ≤ end
last-within start from end [] l r = l
last-within start from end (n ∷ ns) l r = last-within n.start n.before end ns r.2 r.3

units-listed : (h : Log) → (units_of h).entries ≡ entries_by 0 (listed h.notes)
units-listed h = grind arith

-- the last entry of a text lies within it
pub entries-end : (k : CharClasses) (text : List ℕ) → end_of 0 (entries_in k text) ≤ width text
entries-end k text =
    let ns = listed (log k text).notes in
    let e = ap (end_of 0) (units-listed (log k text)) ∙ ends-last 0 ns (in-order-law k text) in
    let w = last-within 0 0 (width text) ns (omega arith) (rising-law k text) in
    omega (arith, e, w)

-- they say what is noted in reading it
pub entries-written : (k : CharClasses) (text : List ℕ) → Written (entries_in k text) (listed (log k text).notes)
entries-written k text = record { entries = units-listed (log k text); nested = nested-law k text; rising = in-order-law k text }

rising-fit : (from end : ℕ) (ns : List Note) → end < 2 ^ 64 - 1 → Rising from end ns → AllFit ns
rising-fit from end [] l r = tt
rising-fit from end (n ∷ ns) l r = (let a = r.2 in omega (arith, a, l), rising-fit n.before end ns l r.3)

-- the notes of a text that a machine word counts stand at its bytes
pub notes-fit : (k : CharClasses) (text : List ℕ) → width text < 2 ^ 64 - 1 → AllFit (listed (log k text).notes)
notes-fit k text l = rising-fit 0 (width text) (listed (log k text).notes) l (rising-law k text)

-- ---- which are found

-- a number is among so many after another
pub record Within (number : ℕ) (es : List Entry) (n : ℕ) : Type 0 where
  pub least : number ≤ n
  pub most : n < number + length es

here-within : (number n : ℕ) (e : Entry) (es : List Entry) → ◌≡◌ {A = Option ℕ} (Some number) (Some n) → Within number (e ∷ es) n
here-within number n e es h = let s = same_Some number n h in record { least = omega (arith, s); most = omega (arith, s) }

none-some : (n : ℕ) → ◌≡◌ {A = Option ℕ} None (Some n) → ⊥
none-some n h = cc

pub closing-within : (inside number : ℕ) (es : List Entry) (n : ℕ) → closing_of inside number es ≡ Some n → Within number es n
closing-within inside number [] n h = absurd (none-some n h)
closing-within inside number (e ∷ es) n h = by-inside (inside_after e.kind inside) (λ further g. closing-within further (suc number) es n g) h
  where
    by-inside : (o : Option ℕ) → ((further : ℕ) → closing_of further (suc number) es ≡ Some n → Within (suc number) es n) → elim o as (λ _. Option ℕ) [ None ↦ Some number | Some further ↦ closing_of further (suc number) es ] ≡ Some n → Within number (e ∷ es) n
    by-inside o f h = grind arith

pub piece-within : (at inside start number : ℕ) (es : List Entry) (n : ℕ) → piece_of at inside start number es ≡ Some n → Within number es n
piece-within at inside start number [] n h = absurd (none-some n h)
piece-within at inside start number (e ∷ es) n h = by-test (leads e.kind inside && token_at start e == at) (λ further g. piece-within at further (token_at start e) (suc number) es n g) h
  where
    by-inside : (o : Option ℕ) → ((further : ℕ) → piece_of at further (token_at start e) (suc number) es ≡ Some n → Within (suc number) es n) → elim o as (λ _. Option ℕ) [ None ↦ None | Some further ↦ piece_of at further (token_at start e) (suc number) es ] ≡ Some n → Within number (e ∷ es) n
    by-inside o f h = grind arith

    by-test : (b : Bool) → ((further : ℕ) → piece_of at further (token_at start e) (suc number) es ≡ Some n → Within (suc number) es n) → (if b then Some number else elim (inside_after e.kind inside) as (λ _. Option ℕ) [ None ↦ None | Some further ↦ piece_of at further (token_at start e) (suc number) es ]) ≡ Some n → Within number (e ∷ es) n
    by-test true f h = here-within number n e es h
    by-test false f h = by-inside (inside_after e.kind inside) f h

pub opening-within : (at start number : ℕ) (es : List Entry) (n : ℕ) → opening_of at start number es ≡ Some n → Within number es n
opening-within at start number [] n h = absurd (none-some n h)
opening-within at start number (e ∷ es) n h = by-test (is_opening e.kind && ((start + e.step) + e.gap) == at) (λ g. opening-within at ((start + e.step) + e.gap) (suc number) es n g) h
  where
    by-test : (b : Bool) → (opening_of at ((start + e.step) + e.gap) (suc number) es ≡ Some n → Within (suc number) es n) → (if b then Some number else opening_of at ((start + e.step) + e.gap) (suc number) es) ≡ Some n → Within number (e ∷ es) n
    by-test b f h = grind arith

-- of those after so many
pub record After (first : ℕ) (es : List Entry) (n : ℕ) : Type 0 where
  pub least : first ≤ n
  pub most : n < length es

dropped : (first : ℕ) (es : List Entry) (n : ℕ) → Within first (drop first es) n → After first es n
dropped first es n w = let l = length-drop first es in record { least = w.least; most = omega (arith, w.least, w.most, l) }

pub closing-after : (first : ℕ) (es : List Entry) (n : ℕ) → closing_of 0 first (drop first es) ≡ Some n → After first es n
closing-after first es n h = dropped first es n (closing-within 0 first (drop first es) n h)

pub begins-after : (first at : ℕ) (es : List Entry) (n : ℕ) → BeginsAt es first at n → After first es n
begins-after first at es n h = dropped first es n (piece-within at 0 (end_of 0 (take first es)) first (drop first es) n h)

-- looks after begin after the stretch from the end at the latest
rear-by : (at start count : ℕ) (es : List Entry) (back : ℕ) → rear_of at start count es back ≤ count + length es
rear-by at start count [] back = grind arith
rear-by at start count (e ∷ es) back = by-test (is_after at start e.back) (rear_of at ((start + e.step) + e.gap) (suc count) es back) (rear-by at ((start + e.step) + e.gap) (suc count) es back)
  where
    by-test : (b : Bool) (r : ℕ) → r ≤ suc count + length es → max (if b then 0 else count) r ≤ count + length (e ∷ es)
    by-test b r h = grind arith

pub rear-within : (at : ℕ) (es : List Entry) (back : ℕ) → rear_of at 0 0 es back ≤ length es
rear-within at es back = let h = rear-by at 0 0 es back in omega (arith, h)
