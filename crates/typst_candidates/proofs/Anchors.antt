-- What is looked up from a place among the entries on.
use Rattle.typst_candidates.proofs.Cited.{◌≡◌, ℕ, suc, ◌+◌, ◌-◌, ◌≤◌, ◌<◌, List, [], ◌∷◌, ◌++◌, length, take, drop, Option, Some, ap, sym, ◌∙◌, arith, nat_tests, slice_get_within, slice_get, Window, Entry, AllLooksEnd, IsAnchor, inside_of, EntryPlace, after, entry_after, inside_after, piece_of, pieces_of, start_at, token_at, end_of, front_of, opening_of, within, Anchor}
use Rattle.std.proofs.lemmas.List.{drop-append-le, drop-take, length-append, length-drop, length-take-le, take-append-drop, take-append-le}
use Rattle.typst_candidates.proofs.Blocks.{opening-over}
use Rattle.typst_candidates.proofs.Cursors.{after-found-in, end-after, inside-grows, one-further, start-on}
use Rattle.typst_candidates.proofs.Tallies.{fewer}
use Rattle.typst_candidates.proofs.Walks.{end-over}

-- ---- the anchor of entries that stay

pub same-front : (n : ℕ) (es fs : List Entry) (a : Anchor) → IsAnchor es a → a.number ≤ n → take n fs ≡ take n es → n ≤ length fs → IsAnchor fs a
same-front n es fs a h le same long =
    let few : take a.number fs ≡ take a.number es = fewer a.number n fs le ∙ ap (take a.number) same ∙ sym (fewer a.number n es le) in
    let fewest : take (a.first - 1) fs ≡ take (a.first - 1) es = fewer (a.first - 1) n fs (omega arith) ∙ ap (take (a.first - 1)) same ∙ sym (fewer (a.first - 1) n es (omega arith)) in
    record { within = omega arith; start = rw few h.start; order = h.order; looks = rw few h.looks; first = h.first; outer = rw fewest h.outer; run = rw few h.run }

pub anchor-append : (es : List Entry) (e : Entry) (a : Anchor) → IsAnchor es a → IsAnchor (es ++ e ∷ []) a
anchor-append es e a h = grind (arith, same-front, take-append-le, length-append)

-- ---- an entry more

pub inside-on : (inside now further : ℕ) (es : List Entry) (e : Entry) → inside_of inside es ≡ Some now → inside_after e.kind now ≡ Some further → inside_of inside (es ++ e ∷ []) ≡ Some further
inside-on inside now further [] e h i = grind arith
inside-on inside now further (d ∷ es) e h i = let later = λ (m : ℕ) (q : inside_of m es ≡ Some now). inside-on m now further es e q i in grind (arith, later)

pub looks-on : (at start : ℕ) (es : List Entry) (e : Entry) → AllLooksEnd at start es → token_at (end_of start es) e + e.forth ≤ at → AllLooksEnd at start (es ++ e ∷ [])
looks-on at start [] e h l = (l, tt)
looks-on at start (d ∷ es) e h l = (h.0, looks-on at (token_at start d) es e h.1 l)

pub looks-more : (at more start : ℕ) (es : List Entry) → at ≤ more → AllLooksEnd at start es → AllLooksEnd more start es
looks-more at more start [] le h = tt
looks-more at more start (e ∷ es) le h = (omega arith, looks-more at more (token_at start e) es le h.1)

pub inside-over : (inside now : ℕ) (us vs : List Entry) → inside_of inside us ≡ Some now → inside_of inside (us ++ vs) ≡ inside_of now vs
inside-over inside now [] vs h = grind arith
inside-over inside now (u ∷ us) vs h = let later = λ (m : ℕ) (q : inside_of m us ≡ Some now). inside-over m now us vs q in grind (arith, later)

-- what is known of the entries before a place, after one more
pub record Further (es : List Entry) (n start reach : ℕ) : Type 0 where
  pub start_is : start ≡ end_of 0 (take n es)
  pub order : start ≤ reach
  pub looks : AllLooksEnd reach 0 (take n es)

pub goes-further : (es : List Entry) (n start end reach more : ℕ) (e : Entry) → slice_get es n ≡ Some e → start ≡ token_at (end_of 0 (take n es)) e → end ≡ start + e.forth → reach ≤ more → end ≤ more → AllLooksEnd reach 0 (take n es) → Further es (suc n) start more
goes-further es n start end reach more e h s f le upto l = grind (arith, one-further es n e h, end-over, looks-on, looks-more)

pub run-further : (es : List Entry) (first n inside further : ℕ) (e : Entry) → slice_get es n ≡ Some e → first ≤ n → inside_of 0 (drop first (take n es)) ≡ Some inside → inside_after e.kind inside ≡ Some further
    → inside_of 0 (drop first (take (suc n) es)) ≡ Some further
run-further es first n inside further e h le i b =
    grind (arith, drop-append-le first (take n es) (e ∷ []) (omega (arith, length-take-le n es (omega (arith, slice_get_within es n e h)), le)), one-further, inside-on)

-- a run begins in no block of it
pub run-begins : (es : List Entry) (n : ℕ) → inside_of 0 (drop n (take n es)) ≡ Some 0
run-begins es n = let none : n ≡ n + 0 = omega arith in ap (λ m. inside_of 0 (drop n (take m es))) none ∙ ap (inside_of 0) (drop-take n 0 es)

pub anchors : (es : List Entry) (n start reach first outer : ℕ) (a : Anchor) → n ≤ length es → first ≤ n → Further es n start reach → outer ≡ end_of 0 (take (first - 1) es) → inside_of 0 (drop first (take n es)) ≡ Some 0
    → a ≡ record { number = n; start = start; reach = reach; first = first; outer = outer } → IsAnchor es a
anchors es n start reach first outer a within le h around run is = grind arith

-- ---- on from an anchor, entry by entry

-- what is known at a place after an anchor, in a given number of blocks of its run
pub record Passed (es : List Entry) (a : Anchor) (p : EntryPlace) (reach inside : ℕ) : Type 0 where
  pub entries : p.entries ≡ es
  pub few : inside ≤ p.number
  pub after : a.number ≤ p.number
  pub looks : AllLooksEnd reach 0 (take p.number es)
  pub run : inside_of 0 (drop a.first (take p.number es)) ≡ Some inside

pub at-anchor : (es : List Entry) (a : Anchor) (p : EntryPlace) → IsAnchor es a → p ≡ record { entries = es; number = a.number } → Passed es a p a.reach 0
at-anchor es a p h is = grind arith

further-on : (es : List Entry) (a : Anchor) (p q : EntryPlace) (e : Entry) (start end reach more inside : ℕ) → Passed es a p reach inside → ◌≡◌ {A = Option Entry} (Some e) (entry_after p) → q ≡ after (Some e) p
    → start ≡ start_at q → end ≡ start + e.forth → reach ≤ more → end ≤ more → Further es (suc p.number) start more
further-on es a p q e start end reach more inside h there moved s f le upto =
    let here = after-found-in es p e h.entries there in
    let token = s ∙ start-on es p q e h.entries there moved ∙ ap (λ us. token_at (end_of 0 (take p.number us)) e) h.entries in
    goes-further es p.number start end reach more e here token f le upto h.looks

-- and at the place after the next entry, of which this is the start
pub record PassedOn (es : List Entry) (a : Anchor) (p : EntryPlace) (start reach inside : ℕ) : Type 0 where
  pub passed : Passed es a p reach inside
  pub further : Further es p.number start reach
  pub within : p.number ≤ length es

pub passed-on : (es : List Entry) (a : Anchor) (p q : EntryPlace) (e : Entry) (start end reach more inside further : ℕ) → Passed es a p reach inside → IsAnchor es a → ◌≡◌ {A = Option Entry} (Some e) (entry_after p) → q ≡ after (Some e) p
    → start ≡ start_at q → end ≡ start + e.forth → reach ≤ more → end ≤ more → inside_after e.kind inside ≡ Some further → PassedOn es a q start more further
passed-on es a p q e start end reach more inside further h anchor there moved s f le upto b =
    let here = after-found-in es p e h.entries there in
    let number : q.number ≡ suc p.number = ap (λ (r : EntryPlace). r.number) moved in
    let on = further-on es a p q e start end reach more inside h there moved s f le upto in
    grind (arith, run-further, inside-grows, slice_get_within)

-- an anchor after that entry, in no block of the run
pub anchor-on : (es : List Entry) (a b : Anchor) (p : EntryPlace) (start reach inside : ℕ) → PassedOn es a p start reach inside → IsAnchor es a → inside ≡ 0 → b ≡ record { number = p.number; start = start; reach = reach; first = a.first; outer = a.outer } → IsAnchor es b
anchor-on es a b p start reach inside h anchor none is = grind arith

-- an anchor at the begin of the block that begins after another
pub record AnchorIn (es : List Entry) (a b : Anchor) : Type 0 where
  pub anchor : IsAnchor es b
  pub after : a.number < b.number

pub anchor-in : (es : List Entry) (a b : Anchor) (p q : EntryPlace) (e : Entry) (start end more : ℕ) → IsAnchor es a → p ≡ record { entries = es; number = a.number } → ◌≡◌ {A = Option Entry} (Some e) (entry_after p) → q ≡ after (Some e) p
    → start ≡ start_at q → end ≡ start + e.forth → a.reach ≤ more → end ≤ more → b ≡ record { number = q.number; start = start; reach = more; first = q.number; outer = a.start } → AnchorIn es a b
anchor-in es a b p q e start end more h at there moved s f le upto is =
    let passed = at-anchor es a p h at in
    let on = further-on es a p q e start end a.reach more 0 passed there moved s f le upto in
    grind (arith, after-found-in, slice_get_within, anchors, run-begins)

-- ---- what comes after entries of which nothing is looked for

front-split : (at start : ℕ) (us vs : List Entry) → AllLooksEnd at start us → front_of at start (us ++ vs) ≡ length us + front_of at (end_of start us) vs
front-split at start [] vs h = omega arith
front-split at start (u ∷ us) vs h = grind (arith, nat_tests, h.0, front-split at (token_at start u) us vs h.1)

piece-split : (at inside start number now : ℕ) (us vs : List Entry) → inside_of inside us ≡ Some now → end_of start us < at
    → piece_of at inside start number (us ++ vs) ≡ piece_of at now (end_of start us) (number + length us) vs
piece-split at inside start number now [] vs h lt = grind arith
piece-split at inside start number now (u ∷ us) vs h lt =
    let early : token_at start u < at = omega (arith, end-after (token_at start u) us) in
    let later = λ (m : ℕ) (q : inside_of m us ≡ Some now). piece-split at m (token_at start u) (suc number) now us vs q lt in
    grind (arith, later)

-- pieces that begin before a window aren't in it
pieces-split : (w : Window) (inside start now : ℕ) (us vs : List Entry) → inside_of inside us ≡ Some now → end_of start us < w.from
    → within w (pieces_of inside start (us ++ vs)) ≡ within w (pieces_of now (end_of start us) vs)
pieces-split w inside start now [] vs h lt = grind arith
pieces-split w inside start now (u ∷ us) vs h lt =
    let early : token_at start u < w.from = omega (arith, end-after (token_at start u) us) in
    let later = λ (m : ℕ) (q : inside_of m us ≡ Some now). pieces-split w m (token_at start u) now us vs q lt in
    grind (arith, later)

-- ---- what is counted from an anchor on

pub front-from : (es : List Entry) (a : Anchor) (at : ℕ) → IsAnchor es a → a.reach ≤ at → a.number + front_of at a.start (drop a.number es) ≡ front_of at 0 es
front-from es a at h le = let whole = ap (front_of at 0) (take-append-drop a.number es) in grind (arith, length-take-le, front-split, looks-more)

pub opening-at : (es : List Entry) (n start at : ℕ) → n ≤ length es → start ≡ end_of 0 (take n es) → start < at → opening_of at start n (drop n es) ≡ opening_of at 0 0 es
opening-at es n start at within there lt =
    sym (opening-over n at 0 0 es within (omega (arith, there, lt)) ∙ ap (λ s. opening_of at s (0 + n) (drop n es)) (sym there) ∙ ap (λ m. opening_of at start m (drop n es)) (omega arith))

pub opening-from : (es : List Entry) (a : Anchor) (at : ℕ) → IsAnchor es a → a.start < at → opening_of at a.start a.number (drop a.number es) ≡ opening_of at 0 0 es
opening-from es a at h lt = opening-at es a.number a.start at h.within h.start lt

pub opening-around : (es : List Entry) (a : Anchor) (at n : ℕ) → IsAnchor es a → n ≡ a.first - 1 → a.outer < at → opening_of at a.outer n (drop n es) ≡ opening_of at 0 0 es
opening-around es a at n h is lt = grind (arith, opening-at)

-- the entries after some, up to more of them and after these
record Parts (es : List Entry) (n m : ℕ) : Type 0 where
  front : take n es ++ drop n (take m es) ≡ take m es
  rest : drop n es ≡ drop n (take m es) ++ drop m es
  end_is : end_of (end_of 0 (take n es)) (drop n (take m es)) ≡ end_of 0 (take m es)
  long : length (drop n (take m es)) ≡ m - n

parts : (es : List Entry) (n m : ℕ) → n ≤ m → m ≤ length es → Parts es n m
parts es n m le within =
    let whole = length-take-le m es within in
    let front : take n es ++ drop n (take m es) ≡ take m es = ap (λ us. us ++ drop n (take m es)) (fewer n m es le) ∙ take-append-drop n (take m es) in
    record {
      front = front;
      rest = ap (drop n) (sym (take-append-drop m es)) ∙ drop-append-le n (take m es) (drop m es) (omega (arith, whole, le));
      end_is = sym (end-over 0 (take n es) (drop n (take m es))) ∙ ap (end_of 0) front;
      long = omega (arith, length-drop n (take m es), whole);
    }

-- the first piece of an anchor's run that begins at a byte after it comes after it
pub piece-from : (es : List Entry) (a : Anchor) (at : ℕ) → IsAnchor es a → a.start < at → piece_of at 0 (end_of 0 (take a.number es)) a.number (drop a.number es) ≡ piece_of at 0 (end_of 0 (take a.first es)) a.first (drop a.first es)
piece-from es a at h lt =
    let le = h.first in
    let p = parts es a.first a.number le h.within in
    let end_is = p.end_is in
    let vs = drop a.first (take a.number es) in
    let ws = drop a.number es in
    sym
    (ap (piece_of at 0 (end_of 0 (take a.first es)) a.first) p.rest ∙ piece-split at 0 (end_of 0 (take a.first es)) a.first 0 vs ws h.run (omega (arith, end_is, lt))
    ∙ ap (λ s. piece_of at 0 s (a.first + length vs) ws) end_is ∙ ap (λ n. piece_of at 0 (end_of 0 (take a.number es)) n ws) (omega (arith, le)))

-- after an anchor come the pieces of its run that come after a place of the run before it
pub pieces-from : (es : List Entry) (a : Anchor) (n : ℕ) (w : Window) → IsAnchor es a → a.first ≤ n → n ≤ a.number → inside_of 0 (drop a.first (take n es)) ≡ Some 0 → a.start < w.from
    → within w (pieces_of 0 (end_of 0 (take a.number es)) (drop a.number es)) ≡ within w (pieces_of 0 (end_of 0 (take n es)) (drop n es))
pieces-from es a n w h after le run lt =
    let inside = h.within in
    let p = parts es n a.number le inside in
    grind (arith, length-take-le, drop-append-le, inside-over, pieces-split)
