-- Notes among the entries of records, by number: a block's two, and what the number of a note says of looks.
use Rattle.typst_edits.proofs.Cited.{◌≡◌, ℕ, suc, ◌+◌, ◌-◌, ◌<◌, ◌≤◌, ◌==◌, eq-eqb, Bool, true, false, ◌&&◌, if◌then◌else◌, List, [], ◌∷◌, ◌++◌, length, drop, Some, refl, ap, sym, ◌∙◌, arith, nat_le, None, subst, and_parts, eqb-true, false_from_ne_true, if-false, Block, Mark, Note, State, entry_kind_of, entry_of, entries_by, last_start, opening_of, IsRising, AllEnd, AllBegin, highest, lowest, nat_tests, CharClasses, Log, Entry, units_of, Units, units_by, front_of, rear_of, log, listed, front-law, rear-law, front_count, rear_count, token-of}
use Rattle.typst_candidates.specs.Records.{is_opening}
use Rattle.std.specs.List.{slice_get}
use Rattle.typst_language.specs.declared.calls.Mark.TheVariants as mark
use Rattle.typst_edits.proofs.Walk.{first-if as if-on}
pub use Rattle.std.proofs.lemmas.Option.{same_Some as some-number}
use Rattle.typst_edits.proofs.InOrder.{in-order-law}

-- ---- the first block that begins at a byte

-- no block begins at a byte at some notes
abbrev pub NoneAt : ℕ → List Note → Type 0
NoneAt at ns = (ms : List Note) (n : Note) (ls : List Note) (b : Block) → ns ≡ ms ++ n ∷ ls → n.mark ≡ mark.Opens b → n.start ≡ at → ⊥

-- one entry: whether a block begins at it, and where
abbrev here : ℕ → Note → ℕ
here start n = (start + (n.before - start)) + (n.start - n.before)

abbrev opens : Mark → Bool
opens (mark.Piece line brackets) = false
opens (mark.Opens b) = true
opens mark.Closes = false

opening-is : (m : Mark) (s : State) → is_opening (entry_kind_of m s) ≡ opens m
opening-is (mark.Piece line brackets) s = refl
opening-is (mark.Opens b) s = refl
opening-is mark.Closes s = refl

record Which (m : Mark) : Type 0 where
  block : Block
  is : m ≡ mark.Opens block

which-opens : (m : Mark) → opens m ≡ true → Which m
which-opens (mark.Piece line brackets) e = absurd (cc)
which-opens (mark.Opens b) e = record { block = b; is = refl }
which-opens mark.Closes e = absurd (cc)

if-off : {A : Type 0} (a b : Bool) (x y : A) → (a ≡ true → b ≡ true → ⊥) → (if a && b then x else y) ≡ y
if-off a b x y h = if-false (a && b) x y (false_from_ne_true (a && b) (λ e. (let both = and_parts a b e in h both.0 both.1)))

step-on : (at start number : ℕ) (n : Note) (ns : List Note) (b : Block) → start ≤ n.before → n.before ≤ n.start → n.mark ≡ mark.Opens b → n.start ≡ at → opening_of at start number (entries_by start (n ∷ ns)) ≡ Some number
step-on at start number n ns b h k m e =
    if-on (is_opening (entry_kind_of n.mark n.state)) (here start n == at) _ _ (opening-is n.mark n.state ∙ ap opens m) (ap (λ i. i == at) (token-of start n h k ∙ e) ∙ eq-eqb at at refl)

step-off : (at start number : ℕ) (n : Note) (ns : List Note) → start ≤ n.before → n.before ≤ n.start → ((b : Block) → n.mark ≡ mark.Opens b → n.start ≡ at → ⊥)
    → opening_of at start number (entries_by start (n ∷ ns)) ≡ opening_of at n.start (suc number) (entries_by n.start ns)
step-off at start number n ns h k other =
    if-off (is_opening (entry_kind_of n.mark n.state)) (here start n == at) _ _ (λ e f. (let w = which-opens n.mark (sym (opening-is n.mark n.state) ∙ e) in other w.block w.is (sym (token-of start n h k) ∙ eqb-true (here start n) at f)))
    ∙ ap (λ i. opening_of at i (suc number) (entries_by n.start ns)) (token-of start n h k)

pub opening-some : (at start number : ℕ) (ms : List Note) (n : Note) (ls : List Note) (b : Block) → IsRising start (ms ++ n ∷ ls) → n.mark ≡ mark.Opens b → n.start ≡ at → NoneAt at ms
    → opening_of at start number (entries_by start (ms ++ n ∷ ls)) ≡ Some (number + length ms)
opening-some at start number [] n ls b r m e clear =
    let none : List Note = [] in
    let same : number ≡ number + length none = omega arith in
    step-on at start number n ls b r.0 r.1 m e ∙ ap Some same
opening-some at start number (x ∷ ms) n ls b r m e clear =
    let same : suc number + length ms ≡ number + length (x ∷ ms) = omega arith in
    step-off at start number x (ms ++ n ∷ ls) r.0 r.1 (λ c f g. clear [] x ms c refl f g)
    ∙ opening-some at x.start (suc number) ms n ls b r.2 m e (λ us y vs c f. clear (x ∷ us) y vs c (ap (λ ws. x ∷ ws) f))
    ∙ ap Some same

pub record Opening (at number : ℕ) (ns : List Note) (p : ℕ) : Type 0 where
  pub earlier : List Note
  pub note : Note
  pub later : List Note
  pub block : Block
  pub is : ns ≡ earlier ++ note ∷ later
  pub mark : note.mark ≡ mark.Opens block
  pub start : note.start ≡ at
  pub index : p ≡ number + length earlier

pub opening-found : (at start number : ℕ) (ns : List Note) (p : ℕ) → IsRising start ns → opening_of at start number (entries_by start ns) ≡ Some p → Opening at number ns p
opening-found at start number [] p r e = absurd (cc)
opening-found at start number (n ∷ ns) p r e = by-test (λ f. opening-found at n.start (suc number) ns p r.2 f) (opens n.mark) (n.start == at) refl refl
  where
    next : Opening at (suc number) ns p → Opening at number (n ∷ ns) p
    next i =
        record { earlier = n ∷ i.earlier; note = i.note; later = i.later; block = i.block; is = ap (λ us. n ∷ us) i.is; mark = i.mark; start = i.start; index = omega (arith, i.index) }

    by-test : (opening_of at n.start (suc number) (entries_by n.start ns) ≡ Some p → Opening at (suc number) ns p) → (a b : Bool) → opens n.mark ≡ a → (n.start == at) ≡ b → Opening at number (n ∷ ns) p
    by-test more true true f g =
        let w = which-opens n.mark f in
        let start_is = eqb-true n.start at g in
        let none : List Note = [] in
        let j = some-number number p (sym (step-on at start number n ns w.block r.0 r.1 w.is start_is) ∙ e) in
        record { earlier = []; note = n; later = ns; block = w.block; is = refl; mark = w.is; start = start_is; index = omega (arith, j) }
    by-test more true false f g = next (more (sym (step-off at start number n ns r.0 r.1 (λ b m s. (let no = sym g ∙ ap (λ i. i == at) s ∙ eq-eqb at at refl in absurd (cc)))) ∙ e))
    by-test more false b f g = next (more (sym (step-off at start number n ns r.0 r.1 (λ b m s. (let no = sym f ∙ ap opens m in absurd (cc)))) ∙ e))

-- ---- by number

pub got-entry : (start : ℕ) (ms : List Note) (n : Note) (ls : List Note) → slice_get (entries_by start (ms ++ n ∷ ls)) (length ms) ≡ Some (entry_of (last_start start ms) n)
got-entry start [] n ls = refl
got-entry start (m ∷ ms) n ls = got-entry m.start ms n ls

pub past-entry : (start : ℕ) (ms : List Note) (n : Note) (ls : List Note) → drop (suc (length ms)) (entries_by start (ms ++ n ∷ ls)) ≡ entries_by n.start ls
past-entry start [] n ls = refl
past-entry start (m ∷ ms) n ls = past-entry m.start ms n ls

-- ---- the tests of looks

-- The greatest of some numbers shows that all are no greater.
all-end : (at : ℕ) (ns : List Note) (n : Note) → (AllEnd at (ns ++ n ∷ []) → highest ns n.reach ≤ at) × (highest ns n.reach ≤ at → AllEnd at (ns ++ n ∷ []))
all-end at [] n = ((λ h. h.0), (λ h. (h, tt)))
all-end at (m ∷ ns) n = let i = all-end at ns n in ((λ h. (let a = h.0 in let b = i.0 h.1 in omega (arith, a, b))), (λ h. (omega (arith, h), i.1 (omega (arith, h)))))

all-begin : (at : ℕ) (ns : List Note) (least : ℕ) → (AllBegin at ns least → at < lowest ns least) × (at < lowest ns least → AllBegin at ns least)
all-begin at [] least = ((λ h. h), (λ h. h))
all-begin at (m ∷ ns) least = let i = all-begin at ns least in ((λ h. (let a = h.0 in let b = i.0 h.1 in omega (arith, a, b))), (λ h. (omega (arith, h), i.1 (omega (arith, h)))))

-- Where a note is among the first that stand at a byte or before it with all looks, so is its token.
counts-on : (here reach at rest : ℕ) (b : Bool) → nat_le (here + (reach - here)) at ≡ b → 0 < (if b then suc rest else 0) → here ≤ at
counts-on here reach at rest true e l = let d : here + (reach - here) ≤ at = grind (arith, nat_tests, e) in omega (arith, d)
counts-on here reach at rest false e l = absurd (omega (arith, l))

counts-more : (n rest : ℕ) (b : Bool) → suc n < (if b then suc rest else 0) → n < rest
counts-more n rest true l = omega (arith, l)
counts-more n rest false l = absurd (omega (arith, l))

step-front : (at start : ℕ) (n : Note) (es : List Entry) → start ≤ n.before → n.before ≤ n.start
    → front_of at start (entry_of start n ∷ es) ≡ (if nat_le (n.start + (n.reach - n.start)) at then suc (front_of at n.start es) else 0)
step-front at start n es a b = ap (λ here. if nat_le (here + (n.reach - n.start)) at then suc (front_of at here es) else 0) (token-of start n a b)

front-start : (ns more : List Note) (n : Note) (at start : ℕ) → IsRising start (ns ++ n ∷ more) → length ns < front_of at start (entries_by start (ns ++ n ∷ more)) → n.start ≤ at
front-start [] more n at start r l = counts-on n.start n.reach at (front_of at n.start (entries_by n.start more)) _ refl (subst (λ j. 0 < j) (step-front at start n (entries_by n.start more) r.0 r.1) l)
front-start (m ∷ ns) more n at start r l =
    let es = entries_by m.start (ns ++ n ∷ more) in
    front-start ns more n at m.start r.2 (counts-more (length ns) (front_of at m.start es) (nat_le (m.start + (m.reach - m.start)) at) (subst (λ j. suc (length ns) < j) (step-front at start m es r.0 r.1) l))

units-are : (h : Log) (ns : List Note) → h.notes ≡ Some ns → units_of h ≡ units_by ns h.least
units-are h ns e = ap (λ o. units_by (elim o as (λ _. List Note) [ None ↦ [] | Some ms ↦ ms ]) h.least) e

-- What the number of a note among all says of looks: they end at a byte that isn't before its token, or begin after one that isn't after it.
pub record NumbersOf (k : CharClasses) (text : List ℕ) (earlier : List Note) (note : Note) (later : List Note) : Type 0 where
  pub before : (at : ℕ) → length earlier < front_count k text at → highest earlier note.reach ≤ at
  pub before_too : (at : ℕ) → note.start ≤ at → highest earlier note.reach ≤ at → length earlier < front_count k text at
  pub after : (end : ℕ) → end ≤ note.start → rear_count k text end ≤ length earlier → end < lowest later (log k text).least
  pub after_too : (end : ℕ) → end ≤ note.start → end < lowest later (log k text).least → rear_count k text end ≤ length earlier

pub numbers-of : (k : CharClasses) (text : List ℕ) (earlier : List Note) (note : Note) (later : List Note) → (log k text).notes ≡ Some (earlier ++ note ∷ later) → NumbersOf k text earlier note later
numbers-of k text earlier note later is =
    let l = log k text in
    let order = subst (λ ns. IsRising 0 ns) (ap listed is) (in-order-law k text) in
    let units = units-are l _ is in
    let fronts : (at : ℕ) → front_count k text at ≡ front_of at 0 (entries_by 0 (earlier ++ note ∷ later)) = λ at. ap (λ (u : Units). front_of at 0 u.entries) units in
    let rears = λ (end : ℕ). ap (λ (u : Units). rear_of end 0 0 u.entries u.back) units in
    record {
      before = λ at p.
          (let q = subst (λ j. length earlier < j) (fronts at) p in
          (all-end at earlier note).0 ((front-law earlier later note at order (front-start earlier later note at 0 order q)).0 q));
      before_too = λ at here h. subst (λ j. length earlier < j) (sym (fronts at)) ((front-law earlier later note at order here).1 ((all-end at earlier note).1 h));
      after = λ end behind q. (all-begin end later l.least).0 ((rear-law earlier later note end l.least order behind).0 (subst (λ j. j ≤ length earlier) (rears end) q));
      after_too = λ end behind h. subst (λ j. j ≤ length earlier) (sym (rears end)) ((rear-law earlier later note end l.least order behind).1 ((all-begin end later l.least).1 h));
    }
