-- Where the pieces of a run begin within a window, and its first piece.
use Rattle.typst_candidates.proofs.Cited.{◌≡◌, ℕ, suc, ◌+◌, ◌≤◌, ◌<◌, ◌&&◌, nat_le, Bool, true, false, if◌then◌else◌, List, [], ◌∷◌, ◌++◌, length, length-drop, take, drop, Option, None, Some, refl, ap, sym, ◌∙◌, arith, take-add, nat_tests, slice_get, Window, Entry, EntryKind, inside_of, end_of, within, after_first, IsNonDecreasing}
use Rattle.std.proofs.lemmas.List.{drop-drop, drop-take}
use Rattle.std.proofs.lemmas.List.Kept.{IsNonDecreasingBy-filter}
use Rattle.typst_candidates.specs.Cursors.{EntryPlace, after, entry_after, first_piece, inside_after, leads, pieces_of, placed, start_at, token_at}
use Rattle.typst_candidates.proofs.Walks.{end-over}
use Rattle.typst_candidates.proofs.Bytes.{pieces-in-order}
use Rattle.typst_candidates.proofs.Cursors.{cut, steps-on}

pub within-rises : (w : Window) (inside start : ℕ) (es : List Entry) → IsNonDecreasing (within w (pieces_of inside start es))
within-rises w inside start es = IsNonDecreasingBy-filter (λ x. x) (λ b. nat_le w.from b && nat_le b w.to) (pieces_of inside start es) (pieces-in-order inside start es)

-- ---- none after the window

none-from : (w : Window) (inside start : ℕ) (es : List Entry) → w.to < start → within w (pieces_of inside start es) ≡ []
none-from w inside start [] h = refl
none-from w inside start (e ∷ es) h = let later = λ (m : ℕ). none-from w m (token_at start e) es (omega arith) in grind (arith, later)

none-after-window : (w : Window) (inside start : ℕ) (e : Entry) (es : List Entry) → w.to < token_at start e → within w (pieces_of inside start (e ∷ es)) ≡ []
none-after-window w inside start e es h = grind (arith, nat_tests, none-from)

-- the pieces in a window after a given number of entries, by the next entry
pub within-on : (w : Window) (es : List Entry) (inside start n further : ℕ) (e : Entry) → slice_get es n ≡ Some e → inside_after e.kind inside ≡ Some further → token_at start e ≤ w.to
    → within w (pieces_of inside start (drop n es)) ≡ (if leads e.kind inside && nat_le w.from (token_at start e) then token_at start e ∷ [] else []) ++ within w (pieces_of further (token_at start e) (drop (suc n) es))
within-on w es inside start n further e h i le = grind (arith, nat_tests, cut)

pub within-stop : (w : Window) (es : List Entry) (inside start n : ℕ) (e : Entry) → slice_get es n ≡ Some e → inside_after e.kind inside ≡ None → token_at start e ≤ w.to
    → within w (pieces_of inside start (drop n es)) ≡ (if leads e.kind inside && nat_le w.from (token_at start e) then token_at start e ∷ [] else [])
within-stop w es inside start n e h i le = grind (arith, nat_tests, cut)

pub within-past : (w : Window) (es : List Entry) (inside start n : ℕ) (e : Entry) → slice_get es n ≡ Some e → w.to < token_at start e → within w (pieces_of inside start (drop n es)) ≡ []
within-past w es inside start n e h far = grind (arith, cut, none-after-window)

-- ---- the first piece of a run

pub not-placed : (p : EntryPlace) (o : Option ℕ) → placed p o ≡ None → o ≡ None
not-placed p o h = grind arith

pub placed-at : (p q : EntryPlace) (o : Option ℕ) → placed p o ≡ Some q → (n : ℕ) × (o ≡ Some n) × (q ≡ record p { number = n })
placed-at p q o h = grind arith

pub no-first : (inside start number : ℕ) (es : List Entry) → first_piece inside number es ≡ None → pieces_of inside start es ≡ []
no-first inside start number [] h = refl
no-first inside start number (e ∷ es) h = let later = λ (m : ℕ). no-first m (token_at start e) (suc number) es in grind (arith, later)

-- a given number of entries stand before the one at which it begins
record First (inside start : ℕ) (es : List Entry) (k : ℕ) : Type 0 where
  within : k < length es
  token : ℕ
  pieces : pieces_of inside start es ≡ token ∷ pieces_of 0 (end_of start (take (suc k) es)) (drop (suc k) es)
  run : inside_of inside (take (suc k) es) ≡ Some 0

leading : (t : EntryKind) (inside : ℕ) → leads t inside ≡ true → inside_after t inside ≡ Some 0
leading t inside h = grind (arith, nat_tests)

the-first : (inside start number n : ℕ) (es : List Entry) → first_piece inside number es ≡ Some n → (k : ℕ) × (n ≡ number + k) × First inside start es k
the-first inside start number n [] h = absurd (cc)
the-first inside start number n (e ∷ es) h = by (leads e.kind inside) refl (inside_after e.kind inside) refl (λ m q. the-first m (token_at start e) (suc number) n es q)
  where
    by : (b : Bool) → leads e.kind inside ≡ b → (o : Option ℕ) → inside_after e.kind inside ≡ o
        → ((m : ℕ) → first_piece m (suc number) es ≡ Some n → (k : ℕ) × (n ≡ suc number + k) × First m (token_at start e) es k) → (k : ℕ) × (n ≡ number + k) × First inside start (e ∷ es) k
    by true l o i f =
        let here : number ≡ n = grind (arith, rw l at h) in
        let on = leading e.kind inside l in
        (0, omega arith, record { within = omega arith; token = token_at start e; pieces = grind (arith, on); run = grind (arith, on) })
    by false l None i f = absurd (grind arith)
    by false l (Some m) i f =
        let r = f m (grind arith) in
        (suc r.0, omega (arith, r.1), record { within = omega (arith, r.2.within); token = r.2.token; pieces = grind (arith, l, i, r.2.pieces); run = grind (arith, i, r.2.run) })

-- the pieces after the first one of a run, after a given number of entries
pub record Firsts (es : List Entry) (number n : ℕ) : Type 0 where
  pub within : n < length es
  pub rest : after_first (pieces_of 0 (end_of 0 (take number es)) (drop number es)) ≡ Some (pieces_of 0 (end_of 0 (take (n + 1) es)) (drop (n + 1) es))
  pub order : number ≤ n + 1
  pub run : inside_of 0 (drop number (take (n + 1) es)) ≡ Some 0

pub firsts : (es : List Entry) (number n : ℕ) → first_piece 0 number (drop number es) ≡ Some n → Firsts es number n
firsts es number n h =
    let r = the-first 0 (end_of 0 (take number es)) number n (drop number es) h in
    let k = r.0 in
    let sum = r.1 in
    let f = r.2 in
    let all : number + suc k ≡ n + 1 = omega (arith, sum) in
    let front : take number es ++ take (suc k) (drop number es) ≡ take (n + 1) es = sym (take-add number (suc k) es) ∙ ap (λ m. take m es) all in
    let back : drop (suc k) (drop number es) ≡ drop (n + 1) es = drop-drop (suc k) number es ∙ ap (λ m. drop m es) (omega (arith, sum)) in
    let end_is : end_of (end_of 0 (take number es)) (take (suc k) (drop number es)) ≡ end_of 0 (take (n + 1) es) = sym (end-over 0 (take number es) (take (suc k) (drop number es))) ∙ ap (end_of 0) front in
    grind (arith, length-drop, drop-take)

-- the pieces after the first one of a run that begins after a place
pub after-run : (p first now : EntryPlace) (o : Option Entry) → placed p (first_piece 0 p.number (drop p.number p.entries)) ≡ Some first → o ≡ entry_after first → now ≡ after o first
    → after_first (pieces_of 0 (start_at p) (drop p.number p.entries)) ≡ Some (pieces_of 0 (start_at now) (drop now.number now.entries))
after-run p first now o h e n =
    let at = placed-at p first (first_piece 0 p.number (drop p.number p.entries)) h in
    let f = firsts p.entries p.number at.0 at.1 in
    let is = steps-on p.entries at.0 first now o f.within at.2 e n in
    f.rest ∙ sym (ap (λ (q : EntryPlace). Some (pieces_of 0 (start_at q) (drop q.number q.entries))) is)

-- after which no block of the run is open
pub record StandsInRun (first : ℕ) (p : EntryPlace) : Type 0 where
  pub order : first ≤ p.number
  pub run : inside_of 0 (drop first (take p.number p.entries)) ≡ Some 0

pub stands-in-run : (p first now : EntryPlace) (o : Option Entry) → placed p (first_piece 0 p.number (drop p.number p.entries)) ≡ Some first → o ≡ entry_after first → now ≡ after o first → StandsInRun p.number now
stands-in-run p first now o h e n =
    let at = placed-at p first (first_piece 0 p.number (drop p.number p.entries)) h in
    let f = firsts p.entries p.number at.0 at.1 in
    let is = steps-on p.entries at.0 first now o f.within at.2 e n in
    grind arith
