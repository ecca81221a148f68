-- What was looked at before a first reading is set aside, and counts again after it.
use Rattle.typst_language.proofs.Cited.{Option, Some, None, ◌≡◌, ℕ, zero, suc, ◌-◌, ◌^◌, ◌<◌, ◌≤◌, max, min, true, false, nat_lt, List, [], ◌∷◌, ◌++◌, length, length-append, append_assoc, get_or, refl, ap, sym, ◌∙◌, arith, set, Place, moved, hull_of, position, Hull, Note, Ask, only_looks, looked, marked, Log, logged, with_hull, Parser, Level, Saved, looked_since, saved, hull_in, listed, looked_alone, looked_before, note_after, notes_after, View, Does, Fits, at, begun, looked_too}
use Rattle.typst_language.proofs.Either.{Back}
use Rattle.typst_language.proofs.Logs.{Among, among-is, is-among, same-log}
use Rattle.typst_lines.proofs.Counts.{below}

-- ---- logs

-- the note of a number is exchanged for itself after a look
notes-set : (n : ℕ) (u : Hull) (ns : List Note) (note : Note) → n < length ns → note ≡ get_or ns n note → notes_after n u ns ≡ set ns n (note_after u note)
notes-set n u [] note h e = absurd (omega arith)
notes-set zero u (x ∷ ns) note h e = ap (λ y. note_after u y ∷ ns) (sym e)
notes-set (suc n) u (x ∷ ns) note h e = ap (λ xs. x ∷ xs) (notes-set n u ns note (omega arith) e)

pub before-noted : (n : ℕ) (u : Hull) (r l m k : ℕ) (ns : List Note) (note : Note) → n < length ns → note ≡ get_or ns n note → m ≡ max note.reach u.reach → k ≡ min note.least u.least
    → ◌≡◌ {A = Log} (record { reach = r; least = l; notes = Some (set ns n (record note { reach = m; least = k })) }) (looked_before n u (record { reach = r; least = l; notes = Some ns }))
before-noted n u r l m k ns note h e f g = rw (below n (length ns) h, f, g, notes-set n u ns note h e) refl

-- it counts again at once
alone-again : (u : Hull) (h : Log) → with_hull u h ≡ h → with_hull (hull_in h) (looked_alone u h) ≡ h
alone-again u h e = let a = among-is u h e in same-log _ _ _ _ h.notes (omega (arith, a.reach)) (omega (arith, a.least))

-- or after the looks of a reading
hull-looks : (u : Hull) (n : ℕ) (z : Place) (h : Log) (asks : List Ask) → with_hull u (logged n z h (only_looks asks)) ≡ logged n z (with_hull u h) (only_looks asks)
hull-looks u n z h [] = refl
hull-looks u n z h (looked at look ∷ asks) =
    let w = hull_of look (moved at z) in
    hull-looks u n z (with_hull w h) asks ∙ ap (λ (x : Log). logged n z x (only_looks asks)) (same-log _ _ _ _ h.notes (omega arith) (omega arith))
hull-looks u n z h (marked at gap fewer mark s ∷ asks) = hull-looks u n z h asks

after-first : (u : Hull) (ns : List Note) (note : Note) (ms : List Note) → notes_after (length ns) u (ns ++ note ∷ ms) ≡ ns ++ note_after u note ∷ ms
after-first u [] note ms = refl
after-first u (x ∷ ns) note ms = ap (λ xs. x ∷ xs) (after-first u ns note ms)

is-noted : (ns : List Note) (note : Note) (ms : List Note) → nat_lt (length ns) (length (ns ++ note ∷ ms)) ≡ true
is-noted ns note ms = below _ _ (omega (arith, length-append ns (note ∷ ms)))

not-less : (n : ℕ) → nat_lt n n ≡ false
not-less n = grind arith

abbrev log-of : ℕ → ℕ → Option (List Note) → Log
log-of r l ns = record { reach = r; least = l; notes = ns }

module _ (n : ℕ) (z : Place) (u : Hull) where
  -- where a note was made since, it counts at that
  logged-noted : (ns : List Note) (note : Note) (ms : List Note) (r l : ℕ) (asks : List Ask)
      → looked_before (length ns) u (logged n z (log-of r l (Some (ns ++ note ∷ ms))) asks) ≡ logged n z (log-of r l (Some (ns ++ note_after u note ∷ ms))) asks
  logged-noted ns note ms r l [] = rw (is-noted ns note ms, after-first u ns note ms) refl
  logged-noted ns note ms r l (looked at look ∷ asks) = let w = hull_of look (moved at z) in logged-noted ns note ms (max r w.reach) (min l w.least) asks
  logged-noted ns note ms r l (marked at gap fewer mark s ∷ asks) =
      let x : Note = record { mark = mark; before = position (moved at z); start = position (moved gap (moved at z)); levels = n - fewer; state = s; reach = r; least = l } in
      let most : ℕ = 2 ^ 64 - 1 in
      ap (λ (ks : List Note). looked_before (length ns) u (logged n z (log-of 0 most (Some ks)) asks)) (append_assoc ns (note ∷ ms) (x ∷ []))
      ∙ logged-noted ns note (ms ++ x ∷ []) 0 most asks
      ∙ ap (λ (ks : List Note). logged n z (log-of 0 most (Some ks)) asks) (sym (append_assoc ns (note_after u note ∷ ms) (x ∷ [])))

  before-unkept : (r l : ℕ) (asks : List Ask) → looked_before 0 u (logged n z (log-of r l None) asks) ≡ logged n z (with_hull u (log-of r l None)) asks
  before-unkept r l [] = refl
  before-unkept r l (looked at look ∷ asks) =
      let w = hull_of look (moved at z) in
      before-unkept (max r w.reach) (min l w.least) asks ∙ ap (λ (x : Log). logged n z x asks) (same-log _ _ _ _ None (omega arith) (omega arith))
  before-unkept r l (marked at gap fewer mark s ∷ asks) = before-unkept r l asks

  before-kept : (ns : List Note) (r l : ℕ) (asks : List Ask) → looked_before (length ns) u (logged n z (log-of r l (Some ns)) asks) ≡ logged n z (with_hull u (log-of r l (Some ns))) asks
  before-kept ns r l [] = rw (not-less (length ns)) refl
  before-kept ns r l (looked at look ∷ asks) =
      let w = hull_of look (moved at z) in
      before-kept ns (max r w.reach) (min l w.least) asks ∙ ap (λ (x : Log). logged n z x asks) (same-log _ _ _ _ (Some ns) (omega arith) (omega arith))
  before-kept ns r l (marked at gap fewer mark s ∷ asks) = logged-noted ns _ [] 0 (2 ^ 64 - 1) asks

  before-by : (r l : ℕ) (ns : Option (List Note)) (asks : List Ask) → looked_before (length (listed ns)) u (logged n z (log-of r l ns) asks) ≡ logged n z (with_hull u (log-of r l ns)) asks
  before-by r l ns asks = grind (arith, before-unkept, before-kept)

-- what is looked at before a reading may be noted after it
logged-before : (n : ℕ) (z : Place) (u : Hull) (h : Log) (asks : List Ask) → looked_before (length (listed h.notes)) u (logged n z h asks) ≡ logged n z (with_hull u h) asks
logged-before n z u h asks = before-by n z u h.reach h.least h.notes asks

-- what was looked at stays so
before-among : (u w : Hull) (c : ℕ) (h : Log) → Among u h → Among u (looked_before c w h)
before-among u w c h a = grind arith

-- ---- first readings

-- the token at hand is the same where it begins
pub begun-fits : {l : Level} {old now : View} → now ≡ begun old → Fits l old → Fits l now
begun-fits {l = l} {old = old} {now = now} e f = grind arith

-- a first reading that turned out right is a step
pub does-aside : {A : Type 0} {l : Level} {p : Parser A} {a : A} {c : Saved} {aside : Hull} {old first mid new : View}
    → first ≡ begun old → aside ≡ hull_in old.log → c ≡ saved first → Does l p a first mid → new ≡ looked_since c aside mid → Does l p a old new
does-aside {l = l} {p = p} {a = a} {c = c} {aside = aside} {old = old} {first = first} {mid = mid} {new = new} e is at-c d end = grind (arith, begun-fits, logged-before, alone-again, is-among, before-among, among-is)

-- it turned out wrong, and the code went back
pub back-aside : {A : Type 0} {l : Level} {p : Parser A} {a : A} {aside : Hull} {old first back now : View}
    → first ≡ begun old → aside ≡ hull_in old.log → old.log.least ≤ 2 ^ 64 - 1 → Fits l old → Back l p a first back → now ≡ looked_too aside back → Back l p a old now
back-aside {l = l} {p = p} {a = a} {aside = aside} {old = old} {first = first} {back = back} {now = now} e is least f b end = grind (arith, hull-looks, alone-again)
