-- The units of two texts that are asked the same before a stretch and after it.
use Rattle.typst_edits.proofs.Cited.{◌≡◌, ℕ, zero, suc, ◌+◌, ◌-◌, ◌<◌, ◌≤◌, ◌^◌, max, min, List, [], ◌∷◌, ◌++◌, length, take, drop, append_assoc, append-nil, refl, ap, sym, ◌∙◌, subst, arith, Bool, true, length-append, Some, None, take-append_seam, back_of, entry_of, entries_by, last_start, spliced, units_of, Units, units_by, Entry, Place, moved, moved_from, width, position, stretch, far, near, Mark, Note, State, Ask, shift, looked, marked, moved-sum, text_with, AllEndBy, AllBeginIn, Noting, noting, token_start, notes_in, entries_from, AllNotedBy, Look, no_log, logged, Outcome, start_point, CharClasses, markup_reading, rules, max_depth, whole, parsed, log, made-sum, AllFrom, asks_of, Sequence, turn_of, first_of, then_of, drop-append_seam, moved-ahead, SpliceLaw, TextReplacement, text_before, text_after, start_before, start_after}
use Rattle.typst_edits.proofs.Edit.{onto, past-is}
use Rattle.typst_edits.proofs.Bytes.{note_by, notes_from, least_from, none_yet, fresh_notes, logged-notes, logged-least, least-around, noted-length, AllMarks, notes-one}
use Rattle.typst_edits.proofs.Widths.{width-append, width-none, width-onto, stretch-to, moved-width, take-width}
use Rattle.typst_edits.proofs.EmptyRuns.{Never, notes-none}
use Rattle.typst_edits.proofs.Every.{Every}
use Rattle.typst_edits.proofs.Seen.{AllSeen, seen-first, sees-level}
use Rattle.typst_edits.proofs.Looks.{ending, from-byte, looks-both, looks-by}

-- ---- the notes of what is asked

-- A note separates them.
pub notes-split : (lv : ℕ) (z : Place) (asks more : List Ask) (p : Noting) (reach least : ℕ) → notes_from lv z reach least (asks ++ noting p ∷ more) ≡ notes_from lv z reach least (asks ++ noting p ∷ []) ++ notes_from lv z 0 (2 ^ 64 - 1) more
notes-split lv z [] more p reach least = refl
notes-split lv z (looked at look ∷ asks) more p reach least = notes-split lv z asks more p (max reach (far look.front (moved at z))) (min least (near look.back (moved at z)))
notes-split lv z (marked at gap fewer m s ∷ asks) more p reach least = ap (λ ns. note_by lv z reach least at gap fewer m s ∷ ns) (notes-split lv z asks more p 0 (2 ^ 64 - 1))

pub last-is : (lv : ℕ) (z : Place) (asks : List Ask) (p : Noting) (reach least start : ℕ) → last_start start (notes_from lv z reach least (asks ++ noting p ∷ [])) ≡ token_start z p
last-is lv z [] p reach least start = refl
last-is lv z (looked at look ∷ asks) p reach least start = last-is lv z asks p (max reach (far look.front (moved at z))) (min least (near look.back (moved at z))) start
last-is lv z (marked at gap fewer m s ∷ asks) p reach least start = last-is lv z asks p 0 (2 ^ 64 - 1) (position (moved gap (moved at z)))

-- ---- entries one after the other

pub entries-append : (start : ℕ) (ns ms : List Note) → entries_by start (ns ++ ms) ≡ entries_by start ns ++ entries_by (last_start start ns) ms
entries-append start [] ms = refl
entries-append start (n ∷ ns) ms = ap (λ es. entry_of start n ∷ es) (entries-append n.start ns ms)

pub last-append : (start : ℕ) (ns ms : List Note) → last_start start (ns ++ ms) ≡ last_start (last_start start ns) ms
last-append start [] ms = refl
last-append start (n ∷ ns) ms = last-append n.start ns ms

pub entries-length : (start : ℕ) (ns : List Note) → length (entries_by start ns) ≡ length ns
entries-length start [] = refl
entries-length start (n ∷ ns) = ap suc (entries-length n.start ns)

-- ---- before the stretch

stretch-first : (n : ℕ) (xs ys : List ℕ) → n ≤ length xs → stretch n (xs ++ ys) ≡ stretch n xs
unfolding stretch
stretch-first zero xs ys h = refl
stretch-first (suc n) [] ys h = absurd (omega (arith, h))
stretch-first (suc n) (c ∷ xs) ys h = let i = stretch-first n xs ys (omega (arith, h)) in omega (arith, i)

far-same : (at n : ℕ) (b front xs ys : List ℕ) → at + n ≤ length front → far n (moved at (record { before = b; ahead = front ++ xs })) ≡ far n (moved at (record { before = b; ahead = front ++ ys }))
unfolding far position
far-same zero n b front xs ys h = ap (λ d. width b + d) (stretch-first n front xs (omega (arith, h)) ∙ sym (stretch-first n front ys (omega (arith, h))))
far-same (suc at) n b [] xs ys h = absurd (omega (arith, h))
far-same (suc at) n b (c ∷ front) xs ys h = far-same at n (c ∷ b) front xs ys (omega (arith, h))

passed-same : (at : ℕ) (b front xs ys : List ℕ) → at ≤ length front → (moved_from at b (front ++ xs)).before ≡ (moved_from at b (front ++ ys)).before
passed-same zero b front xs ys h = refl
passed-same (suc at) b [] xs ys h = absurd (omega (arith, h))
passed-same (suc at) b (c ∷ front) xs ys h = passed-same at (c ∷ b) front xs ys (omega (arith, h))

position-same : (at : ℕ) (front xs ys : List ℕ) → at ≤ length front → position (moved at (record { before = []; ahead = front ++ xs })) ≡ position (moved at (record { before = []; ahead = front ++ ys }))
unfolding position
position-same at front xs ys h = ap width (passed-same at [] front xs ys h)

near-same : (at n : ℕ) (front xs ys : List ℕ) → at ≤ length front → near n (moved at (record { before = []; ahead = front ++ xs })) ≡ near n (moved at (record { before = []; ahead = front ++ ys }))
unfolding near position
near-same at n front xs ys h = ap (λ b. suc (width b) - stretch n b) (passed-same at [] front xs ys h)

start-same : (p : Noting) (front xs ys : List ℕ) → p.at + p.gap ≤ length front → token_start (record { before = []; ahead = front ++ xs }) p ≡ token_start (record { before = []; ahead = front ++ ys }) p
start-same p front xs ys h =
    ap position (sym (moved-sum p.at p.gap (record { before = []; ahead = front ++ xs }))) ∙ position-same (p.at + p.gap) front xs ys h ∙ ap position (moved-sum p.at p.gap (record { before = []; ahead = front ++ ys }))

note-same : (lv : ℕ) (p : Noting) (front xs ys : List ℕ) (reach least : ℕ) → p.at + p.gap ≤ length front
    → note_by lv (record { before = []; ahead = front ++ xs }) reach least p.at p.gap p.fewer p.mark p.state ≡ note_by lv (record { before = []; ahead = front ++ ys }) reach least p.at p.gap p.fewer p.mark p.state
note-same lv p front xs ys reach least h = grind (arith, position-same, start-same)

pub front-same : (lv : ℕ) (front xs ys : List ℕ) (asks : List Ask) (p : Noting) (reach least : ℕ) → AllEndBy (length front) asks → AllNotedBy (length front) asks → p.at + p.gap ≤ length front
    → notes_from lv (record { before = []; ahead = front ++ xs }) reach least (asks ++ noting p ∷ []) ≡ notes_from lv (record { before = []; ahead = front ++ ys }) reach least (asks ++ noting p ∷ [])
front-same lv front xs ys [] p reach least h g e = ap (λ n. n ∷ []) (note-same lv p front xs ys reach least e)
front-same lv front xs ys (looked at look ∷ asks) p reach least h g e =
    let w : Place = record { before = []; ahead = front ++ ys } in
    let z : Place = record { before = []; ahead = front ++ xs } in
    ap (λ n. notes_from lv z (max reach n) (min least (near look.back (moved at z))) (asks ++ noting p ∷ [])) (far-same at look.front [] front xs ys h.0)
    ∙ ap (λ n. notes_from lv z (max reach (far look.front (moved at w))) (min least n) (asks ++ noting p ∷ [])) (near-same at look.back front xs ys (omega (arith, h.0)))
    ∙ front-same lv front xs ys asks p (max reach (far look.front (moved at w))) (min least (near look.back (moved at w))) h.1 g e
front-same lv front xs ys (marked at gap fewer m s ∷ asks) p reach least h g e =
    let q : Noting = record { at = at; gap = gap; fewer = fewer; mark = m; state = s } in
    let z : Place = record { before = []; ahead = front ++ xs } in
    let w : Place = record { before = []; ahead = front ++ ys } in
    ap (λ n. n ∷ notes_from lv z 0 (2 ^ 64 - 1) (asks ++ noting p ∷ [])) (note-same lv q front xs ys reach least g.0)
    ∙ ap (λ ns. note_by lv w reach least at gap fewer m s ∷ ns) (front-same lv front xs ys asks p 0 (2 ^ 64 - 1) h g.1 e)

-- ---- after the stretch

passed-is : (d : ℕ) (b a : List ℕ) → (moved_from d b a).before ≡ onto (take d a) b
passed-is zero b a = refl
passed-is (suc d) b [] = refl
passed-is (suc d) b (c ∷ a) = passed-is d (c ∷ b) a

onto-append : (xs b : List ℕ) → onto xs b ≡ onto xs [] ++ b
onto-append [] b = refl
onto-append (c ∷ xs) b = onto-append xs (c ∷ b) ∙ sym (append_assoc (onto xs []) (c ∷ []) b) ∙ ap (λ u. u ++ b) (sym (onto-append xs (c ∷ [])))

onto-length : (d : ℕ) (b a : List ℕ) → d ≤ length a → length (onto (take d a) b) ≡ d + length b
onto-length zero b a h = omega arith
onto-length (suc d) b [] h = absurd (omega (arith, h))
onto-length (suc d) b (c ∷ a) h = let i = onto-length d (c ∷ b) a (omega (arith, h)) in omega (arith, i)

pub position-behind : (d : ℕ) (early rest : List ℕ) → position (moved d (record { before = early; ahead = rest })) ≡ width early + width (take d rest)
unfolding position
position-behind d early rest = omega (arith, moved-width d early rest)

far-behind : (n d : ℕ) (early rest : List ℕ) → far n (moved d (record { before = early; ahead = rest })) ≡ width early + (width (take d rest) + stretch n (drop d rest))
unfolding far position
far-behind n d early rest = let a = ap (stretch n) (moved-ahead d (record { before = early; ahead = rest })) in omega (arith, a, moved-width d early rest)

near-behind : (n d : ℕ) (early rest : List ℕ) → n ≤ d → d ≤ length rest → near n (moved d (record { before = early; ahead = rest })) ≡ width early + (suc (width (take d rest)) - stretch n (onto (take d rest) []))
unfolding near position
near-behind n d early rest h k = grind (arith, passed-is, onto-append, onto-length, stretch-first, append-nil, stretch-to, width-onto, width-none, moved-width)

-- Looks end and begin as far after the one byte as after the other.
abbrev pub SameReach : ℕ → ℕ → ℕ → ℕ → Type 0
SameReach e f a b = (x : ℕ) → a - (e + x) ≡ b - (f + x)

abbrev pub SameLeast : ℕ → ℕ → ℕ → ℕ → ℕ → Type 0
SameLeast top e f a b = (x : ℕ) → x ≤ top → suc (e + x) - a ≡ suc (f + x) - b

pub reach-none : (e f : ℕ) → SameReach e f 0 0
reach-none e f x = omega arith

pub least-none : (top e f big : ℕ) → e + top < big → f + top < big → SameLeast top e f big big
least-none top e f big h k x l = omega (arith, h, k, l)

-- a given number of characters further on, after a stretch
module _ (front mid rest : List ℕ) (past end : ℕ) (e : end ≡ (length front + length mid) + past) where
  abbrev text_at : ℕ → Place
  text_at at = moved (end + at) (text_with front mid rest)

  abbrev before : ℕ
  before = width (onto mid (onto front []))

  behind-place : (at : ℕ) → text_at at ≡ moved (past + at) (record { before = onto mid (onto front []); ahead = rest })
  behind-place at = grind (arith, past-is)

  position-at : (at : ℕ) → position (text_at at) ≡ before + width (take (past + at) rest)
  position-at at = ap position (behind-place at) ∙ position-behind (past + at) (onto mid (onto front [])) rest

  start-at : (at gap : ℕ) → position (moved gap (text_at at)) ≡ before + width (take (past + (at + gap)) rest)
  start-at at gap =
      let sum : (end + at) + gap ≡ end + (at + gap) = omega arith in
      ap position (sym (moved-sum (end + at) gap (text_with front mid rest))) ∙ ap (λ n. position (moved n (text_with front mid rest))) sum ∙ position-at (at + gap)

  far-at : (at n : ℕ) → far n (text_at at) ≡ before + (width (take (past + at) rest) + stretch n (drop (past + at) rest))
  far-at at n = ap (far n) (behind-place at) ∙ far-behind n (past + at) (onto mid (onto front [])) rest

  near-at : (at n : ℕ) → n ≤ past + at → past + at ≤ length rest → near n (text_at at) ≡ before + (suc (width (take (past + at) rest)) - stretch n (onto (take (past + at) rest) []))
  near-at at n h k = ap (near n) (behind-place at) ∙ near-behind n (past + at) (onto mid (onto front [])) rest h k

-- as far after the one stretch as after the other
module _ (lv : ℕ) (edit : TextReplacement) (past end stop : ℕ) (e : end ≡ (length edit.front + length edit.old) + past) (f : stop ≡ (length edit.front + length edit.new) + past) where
  abbrev z : Place
  z = start_before edit

  abbrev w : Place
  w = start_after edit

  abbrev b : ℕ
  b = width (onto edit.old (onto edit.front []))

  abbrev c : ℕ
  c = width (onto edit.new (onto edit.front []))

  abbrev top : ℕ
  top = width edit.rest

  abbrev wide : ℕ → ℕ
  wide d = width (take d edit.rest)

  -- The entries are the same, and so is how far back was looked since the last note.
  pub record Rear (x r l t u : ℕ) (asks : List Ask) : Type 0 where
    pub entries : entries_by (b + x) (notes_from lv z r l (shift end asks)) ≡ entries_by (c + x) (notes_from lv w t u (shift stop asks))
    pub back : back_of (last_start (b + x) (notes_from lv z r l (shift end asks))) (least_from lv z l (shift end asks)) ≡ back_of (last_start (c + x) (notes_from lv w t u (shift stop asks))) (least_from lv w u (shift stop asks))

  reach-same : (r t at n : ℕ) → SameReach b c r t → SameReach b c (max r (far n (moved (end + at) z))) (max t (far n (moved (stop + at) w)))
  reach-same r t at n h x = let o = far-at edit.front edit.old edit.rest past end e at n in let m = far-at edit.front edit.new edit.rest past stop f at n in let i = h x in omega (arith, i, o, m)

  least-same : (l u at n : ℕ) → n ≤ past + at → past + at ≤ length edit.rest → SameLeast top b c l u → SameLeast top b c (min l (near n (moved (end + at) z))) (min u (near n (moved (stop + at) w)))
  least-same l u at n h k s x le = let o = near-at edit.front edit.old edit.rest past end e at n h k in let m = near-at edit.front edit.new edit.rest past stop f at n h k in let i = s x le in omega (arith, i, o, m)

  note-behind : (x r l t u at gap fewer : ℕ) (m : Mark) (s : State) → x ≤ top → SameReach b c r t → SameLeast top b c l u
      → entry_of (b + x) (note_by lv z r l (end + at) gap fewer m s) ≡ entry_of (c + x) (note_by lv w t u (stop + at) gap fewer m s)
  note-behind x r l t u at gap fewer m s h i j =
      grind (arith, start-at edit.front edit.old edit.rest past end e at gap, start-at edit.front edit.new edit.rest past stop f at gap, position-at edit.front edit.old edit.rest past end e at, position-at edit.front edit.new edit.rest past stop f at, i (wide (past + (at + gap))))

  pub rear : (asks : List Ask) (x r l t u : ℕ) → x ≤ top → b + top < 2 ^ 64 - 1 → c + top < 2 ^ 64 - 1 → SameReach b c r t → SameLeast top b c l u → AllBeginIn past edit.rest asks → Rear x r l t u asks
  rear [] x r l t u h big big_new i j g = record { entries = refl; back = j x h }
  rear (looked at look ∷ asks) x r l t u h big big_new i j g =
      grind (arith, rear asks x _ _ _ _ h big big_new (reach-same r t at look.front i) (least-same l u at look.back g.0 g.1 j) g.2)
  rear (marked at gap fewer m s ∷ asks) x r l t u h big big_new i j g =
      let y = wide (past + (at + gap)) in
      let o = rear asks y 0 (2 ^ 64 - 1) 0 (2 ^ 64 - 1) (take-width (past + (at + gap)) edit.rest) big big_new (reach-none b c) (least-none top b c (2 ^ 64 - 1) big big_new) g in
      grind (arith, note-behind, start-at)

-- ---- parts

-- entries of three parts, of which the second is exchanged
pub spliced-is : (from to : ℕ) (es fs gs part : List Entry) (back : ℕ) → length es ≡ suc from → length (es ++ fs) ≡ suc to
    → spliced from to part (record { entries = es ++ (fs ++ gs); back = back }) ≡ record { entries = es ++ (part ++ gs); back = back }
spliced-is from to es fs gs part back e f =
    let dropped = ap (drop (suc to)) (sym (append_assoc es fs gs)) ∙ ap (λ k. drop k ((es ++ fs) ++ gs)) (sym f) ∙ drop-append_seam (es ++ fs) gs in
    ap (λ u. record { entries = u ++ (part ++ drop (suc to) (es ++ (fs ++ gs))); back = back }) (ap (λ k. take k (es ++ (fs ++ gs))) (sym e) ∙ take-append_seam es (fs ++ gs))
    ∙ ap (λ u. record { entries = es ++ (part ++ u); back = back }) dropped

pub whole-width : (front mid rest : List ℕ) → width (onto mid (onto front [])) + width rest ≡ width (front ++ (mid ++ rest))
whole-width front mid rest = omega (arith, width-append front (mid ++ rest), width-append mid rest, width-onto mid (onto front []), width-onto front [], width-none)

pub token-at : (z : Place) (p : Noting) (end : ℕ) → p.at + p.gap ≡ end → token_start z p ≡ position (moved end z)
token-at z p end e = ap position (sym (moved-sum p.at p.gap z)) ∙ ap (λ n. position (moved n z)) e

-- ---- the units of a text by what is asked after one note: those of some asks of its own, and those of what follows these

-- ---- looks alone

-- looks after notes
pub notes-bare : (lv : ℕ) (z : Place) (asks looks : List Ask) (reach least : ℕ) → AllMarks Never looks → notes_from lv z reach least (asks ++ looks) ≡ notes_from lv z reach least asks
notes-bare lv z [] looks reach least h = notes-none lv z looks reach least h
notes-bare lv z (looked at look ∷ asks) looks reach least h = notes-bare lv z asks looks (max reach (far look.front (moved at z))) (min least (near look.back (moved at z))) h
notes-bare lv z (marked at gap fewer m s ∷ asks) looks reach least h = ap (λ ns. note_by lv z reach least at gap fewer m s ∷ ns) (notes-bare lv z asks looks 0 none_yet h)

pub count-append : (ls ks : List Ask) → notes_in (ls ++ ks) ≡ notes_in ls + notes_in ks
count-append [] ks = omega arith
count-append (looked at look ∷ ls) ks = count-append ls ks
count-append (marked at gap fewer m s ∷ ls) ks = let i = count-append ls ks in omega (arith, i)

pub count-shift : (d : ℕ) (ls : List Ask) → notes_in (shift d ls) ≡ notes_in ls
count-shift d [] = refl
count-shift d (looked at look ∷ ls) = count-shift d ls
count-shift d (marked at gap fewer m s ∷ ls) = ap suc (count-shift d ls)

pub count-none : (ls : List Ask) → AllMarks Never ls → notes_in ls ≡ 0
count-none [] h = refl
count-none (looked at look ∷ ls) h = count-none ls h
count-none (marked at gap fewer m s ∷ ls) h = absurd h.0

count-pieces : (os ps : List (Outcome (Bool × (Bool × ℕ)))) → notes_in (asks_of (os ++ ps)) ≡ notes_in (asks_of os) + notes_in (asks_of ps)
count-pieces [] ps = omega arith
count-pieces (o ∷ os) ps =
    let own = count-append o.asks (shift o.taken (asks_of os)) in
    omega (arith, count-pieces os ps, count-append o.asks (shift o.taken (asks_of (os ++ ps))), own, count-shift o.taken (asks_of (os ++ ps)), count-shift o.taken (asks_of os))

-- As many notes are made in pieces of a run as in the first and in those after them.
pub count-made : (r : Sequence) (i n : ℕ) → notes_in (asks_of (first_of (i + n) r)) ≡ notes_in (asks_of (first_of i r)) + notes_in (asks_of (then_of i n r))
count-made r i n = ap (λ os. notes_in (asks_of os)) (made-sum (turn_of r) i n (true, 0) r.place r.point) ∙ count-pieces (first_of i r) (then_of i n r)

-- looks that begin after a byte
pub least-over : (lv b : ℕ) (z : Place) (asks : List Ask) (least : ℕ) → b < least → b < none_yet → AllFrom b z asks → b < least_from lv z least asks
least-over lv b z [] least h i f = h
least-over lv b z (looked at look ∷ asks) least h i f = least-over lv b z asks (min least (near look.back (moved at z))) (omega (arith, h, f.0)) i f.1
least-over lv b z (marked at gap fewer m s ∷ asks) least h i f = least-over lv b z asks none_yet i i f

pub from-zero : (b : ℕ) (z : Place) (asks : List Ask) → AllFrom b z asks → AllFrom 0 z asks
from-zero b z asks h = looks-by (from-byte b z) (from-byte 0 z) (λ at look p. omega (arith, p)) asks h

pub noted-last : (n : ℕ) (ls : List Ask) (p : Noting) → AllNotedBy n (ls ++ noting p ∷ []) → p.at + p.gap ≤ n
noted-last n [] p h = h.0
noted-last n (looked at seen ∷ ls) p h = noted-last n ls p h
noted-last n (marked at gap fewer m s ∷ ls) p h = noted-last n ls p h.1

pub noted-first : (n : ℕ) (ls ks : List Ask) → AllNotedBy n (ls ++ ks) → AllNotedBy n ls
noted-first n [] ks h = tt
noted-first n (looked at seen ∷ ls) ks h = noted-first n ls ks h
noted-first n (marked at gap fewer m s ∷ ls) ks h = (h.0, noted-first n ls ks h.1)

-- ---- after a note

-- What is asked after a note gives the entries of some asks of its own and then of others, and the looks since the last note begin a given number of bytes back.
pub record Side (lv : ℕ) (z : Place) (p : Noting) (own all : List Ask) (behind : List Entry) (back : ℕ) : Type 0 where
  pub entries : entries_by (token_start z p) (fresh_notes lv z all) ≡ entries_by (token_start z p) (fresh_notes lv z own) ++ behind
  pub ends : back_of (last_start (token_start z p) (fresh_notes lv z all)) (least_from lv z none_yet all) ≡ back

pub side-by : (lv : ℕ) (z : Place) (p : Noting) (own all : List Ask) (es fs : List Entry) (a b : ℕ) → es ≡ fs → a ≡ b → Side lv z p own all es a → Side lv z p own all fs b
side-by lv z p own all es fs a b e f s = record { entries = s.entries ∙ ap (λ u. entries_by (token_start z p) (fresh_notes lv z own) ++ u) e; ends = s.ends ∙ f }

abbrev pub units_behind : ℕ → Place → List Ask → Noting → List Ask → Units
units_behind lv z first p all = record {
  entries = entries_by 0 (fresh_notes lv z (first ++ noting p ∷ [])) ++ entries_by (token_start z p) (fresh_notes lv z all);
  back = back_of (last_start (token_start z p) (fresh_notes lv z all)) (least_from lv z none_yet all);
}

units-side : (lv : ℕ) (z : Place) (first : List Ask) (p : Noting) (all : List Ask) → units_of (logged lv z no_log (first ++ noting p ∷ all)) ≡ units_behind lv z first p all
units-side lv z first p all =
    let asks = first ++ noting p ∷ all in
    let tp = token_start z p in
    let ns = fresh_notes lv z (first ++ noting p ∷ []) in
    let ms = fresh_notes lv z all in
    let h = logged lv z no_log asks in
    let notes : h.notes ≡ Some (ns ++ ms) = logged-notes lv z asks ∙ ap Some (notes-split lv z first all p 0 none_yet) in
    let least : h.least ≡ least_from lv z none_yet all = logged-least lv z asks ∙ least-around lv z first p all in
    let ends = last-is lv z first p 0 none_yet 0 in
    let entries : entries_by 0 (ns ++ ms) ≡ entries_by 0 ns ++ entries_by tp ms = entries-append 0 ns ms ∙ ap (λ n. entries_by 0 ns ++ entries_by n ms) ends in
    let ending : last_start 0 (ns ++ ms) ≡ last_start tp ms = last-append 0 ns ms ∙ ap (λ n. last_start n ms) ends in
    (λ v. units_by (elim (notes v) as (λ _. List Note) [ None ↦ [] | Some ns ↦ ns ]) (least v)) ∙ (λ v. record { entries = entries v; back = back_of (ending v) (least_from lv z none_yet all) })

-- Where two texts have the same first notes, and the same after their own asks, the units of the one are those of the other with the own ones exchanged.
pub splice-sides : (lv : ℕ) (front xs ys : List ℕ) (first : List Ask) (p : Noting) (own all own_new all_new : List Ask) (behind : List Entry) (back : ℕ)
    → (let z : Place = record { before = []; ahead = front ++ xs } in
    let w : Place = record { before = []; ahead = front ++ ys } in
    AllEndBy (length front) first → AllNotedBy (length front) first → p.at + p.gap ≤ length front → Side lv z p own all behind back → Side lv w p own_new all_new behind back
    → units_of (logged lv w no_log (first ++ noting p ∷ all_new))
    ≡ spliced (notes_in first) (notes_in first + notes_in own) (entries_from (token_start w p) (logged lv w no_log own_new).notes) (units_of (logged lv z no_log (first ++ noting p ∷ all))))
splice-sides lv front xs ys first p own all own_new all_new behind back ends noted within a b =
    let z : Place = record { before = []; ahead = front ++ xs } in
    let w : Place = record { before = []; ahead = front ++ ys } in
    let front_is = ap (entries_by 0) (sym (front-same lv front xs ys first p 0 none_yet ends noted within)) in
    let es = entries_by 0 (fresh_notes lv z (first ++ noting p ∷ [])) in
    let fs = entries_by (token_start z p) (fresh_notes lv z own) in
    let ps = entries_by (token_start w p) (fresh_notes lv w own_new) in
    let from = notes_in first in
    let to = from + notes_in own in
    let long : length es ≡ suc from = entries-length 0 _ ∙ noted-length lv z (first ++ noting p ∷ []) 0 none_yet ∙ notes-one first p.at p.gap p.fewer p.mark p.state in
    let longer : length fs ≡ notes_in own = entries-length (token_start z p) _ ∙ noted-length lv z own 0 none_yet in
    let whole : length (es ++ fs) ≡ suc to = omega (arith, length-append es fs, long, longer) in
    let part_is : entries_from (token_start w p) (logged lv w no_log own_new).notes ≡ ps = ap (entries_from (token_start w p)) (logged-notes lv w own_new) in
    let was : units_of (logged lv z no_log (first ++ noting p ∷ all)) ≡ record { entries = es ++ (fs ++ behind); back = back } =
    units-side lv z first p all ∙ (λ v. record { entries = es ++ a.entries v; back = a.ends v }) in
    units-side lv w first p all_new
    ∙ (λ v. record { entries = front_is v ++ b.entries v; back = b.ends v })
    ∙ sym (spliced-is from to es fs behind ps back long whole)
    ∙ (λ v. spliced from to (sym part_is v) (sym was v))

-- Two texts are read alike up to a note, and from a later one on: the units of the second are those of the first with the entries between these two notes exchanged for its own.
pub splice-texts : (k : CharClasses) (edit : TextReplacement) (first : List Ask) (p q : Noting) (own all own_new all_new : List Ask) (behind : List Entry) (back from count : ℕ)
    → (parsed k max_depth (text_before edit)).asks ≡ first ++ noting p ∷ all → (parsed k max_depth (text_after edit)).asks ≡ first ++ noting p ∷ all_new → q ≡ p → AllEndBy (length edit.front) first
    → Side max_depth (start_before edit) p own all behind back → Side max_depth (start_after edit) q own_new all_new behind back → notes_in first ≡ from → notes_in own ≡ count
    → units_of (log k (text_after edit)) ≡ spliced from (from + count) (entries_from (token_start (start_after edit) q) (logged max_depth (start_after edit) no_log own_new).notes) (units_of (log k (text_before edit)))
unfolding log
splice-texts k edit first p q own all own_new all_new behind back from count was now same early one two from_is count_is =
    let z = start_before edit in
    let w = start_after edit in
    let n = length edit.front in
    let upto = first ++ noting p ∷ [] in
    let all_seen = (sees-level (rules k) k max_depth whole z (start_point markup_reading) n (omega arith)).noted in
    let noted_all = seen-first n upto all (subst (AllSeen n) (was ∙ sym (append_assoc first (noting p ∷ []) all)) all_seen) (looks-both (ending n) first (noting p ∷ []) early tt) in
    let law = splice-sides max_depth edit.front (edit.old ++ edit.rest) (edit.new ++ edit.rest) first p own all own_new all_new behind back early
    (noted-first n first (noting p ∷ []) noted_all) (noted-last n first p noted_all) one (subst (λ a. Side max_depth w a own_new all_new behind back) same two) in
    let part = λ (a : Noting). entries_from (token_start w a) (logged max_depth w no_log own_new).notes in
    let units = λ (asks : List Ask). units_of (logged max_depth z no_log asks) in
    grind arith

-- ---- after a token

-- what is asked from a given number of characters further on, after a note whose token begins there
abbrev pub entries_at : ℕ → Place → ℕ → List Ask → List Entry
entries_at lv z at asks = entries_by (position (moved at z)) (fresh_notes lv z (shift at asks))

abbrev pub back_at : ℕ → Place → ℕ → List Ask → ℕ
back_at lv z at asks = back_of (last_start (position (moved at z)) (fresh_notes lv z (shift at asks))) (least_from lv z none_yet (shift at asks))

-- own asks that end with a note, and looks after it
side-ended : (lv : ℕ) (z : Place) (p q : Noting) (own all second looks rest : List Ask) → own ≡ second ++ noting q ∷ looks → AllMarks Never looks → all ≡ second ++ noting q ∷ rest
    → Side lv z p own all (entries_by (token_start z q) (fresh_notes lv z rest)) (back_of (last_start (token_start z q) (fresh_notes lv z rest)) (least_from lv z none_yet rest))
side-ended lv z p q own all second looks rest own_is none all_is =
    let tp = token_start z p in
    let tq = token_start z q in
    let ns = fresh_notes lv z (second ++ noting q ∷ []) in
    let ms = fresh_notes lv z rest in
    let own_notes : fresh_notes lv z own ≡ ns =
    ap (fresh_notes lv z) own_is ∙ ap (fresh_notes lv z) (sym (append_assoc second (noting q ∷ []) looks)) ∙ notes-bare lv z (second ++ noting q ∷ []) looks 0 none_yet none in
    let all_notes : fresh_notes lv z all ≡ ns ++ ms = ap (fresh_notes lv z) all_is ∙ notes-split lv z second rest q 0 none_yet in
    let ends : last_start tp ns ≡ tq = last-is lv z second q 0 none_yet tp in
    let least : least_from lv z none_yet all ≡ least_from lv z none_yet rest = ap (least_from lv z none_yet) all_is ∙ least-around lv z second q rest in
    grind (arith, entries-append, last-append)

-- where the note's token begins there
pub side-closed : (lv : ℕ) (z : Place) (p q : Noting) (own all second looks : List Ask) (at : ℕ) (last : List Ask) → own ≡ second ++ noting q ∷ looks → AllMarks Never looks → all ≡ second ++ noting q ∷ shift at last
    → token_start z q ≡ position (moved at z) → Side lv z p own all (entries_at lv z at last) (back_at lv z at last)
side-closed lv z p q own all second looks at last own_is none all_is begins =
    let ms = fresh_notes lv z (shift at last) in
    side-by lv z p own all _ _ _ _ (ap (λ n. entries_by n ms) begins) (ap (λ n. back_of (last_start n ms) (least_from lv z none_yet (shift at last))) begins) (side-ended lv z p q own all second looks (shift at last) own_is none all_is)

-- No note of its own is made, where the note's token begins there.
pub side-open : (lv : ℕ) (z : Place) (p : Noting) (own all : List Ask) (at : ℕ) (last : List Ask) → AllMarks Never own → all ≡ shift at last → token_start z p ≡ position (moved at z)
    → Side lv z p own all (entries_at lv z at last) (back_at lv z at last)
side-open lv z p own all at last none all_is begins = grind (arith, notes-none)

-- No note at all follows a note at the text's start.
pub side-none : (lv : ℕ) (z : Place) (p : Noting) (own all : List Ask) → AllMarks Never own → AllMarks Never all → AllFrom 0 z all → token_start z p ≡ 0 → Side lv z p own all [] 0
side-none lv z p own all bare none begun begins =
    let back : back_of 0 (least_from lv z none_yet all) ≡ 0 = omega (arith, least-over lv 0 z all none_yet (omega arith) (omega arith) begun) in
    grind (arith, token_start z p, notes-none lv z all 0 none_yet none, notes-none)

-- the same after two stretches, where the tokens begin at two places, as many characters after them
pub record SameAfter (lv : ℕ) (z w : Place) (end stop at at_new : ℕ) (last : List Ask) : Type 0 where
  pub entries : entries_by (position (moved at_new w)) (fresh_notes lv w (shift stop last)) ≡ entries_by (position (moved at z)) (fresh_notes lv z (shift end last))
  pub back : back_of (last_start (position (moved at_new w)) (fresh_notes lv w (shift stop last))) (least_from lv w none_yet (shift stop last))
      ≡ back_of (last_start (position (moved at z)) (fresh_notes lv z (shift end last))) (least_from lv z none_yet (shift end last))

same-after : (lv : ℕ) (edit : TextReplacement) (past gap at at_new : ℕ) (last : List Ask) → at ≡ ((length edit.front + length edit.old) + past) + gap → at_new ≡ ((length edit.front + length edit.new) + past) + gap
    → width (text_before edit) < 2 ^ 64 - 1 → width (text_after edit) < 2 ^ 64 - 1 → AllBeginIn past edit.rest last
    → SameAfter lv (start_before edit) (start_after edit) ((length edit.front + length edit.old) + past) ((length edit.front + length edit.new) + past) at at_new last
same-after lv edit past gap at at_new last at_is new_is big big_new begins =
    let z = start_before edit in
    let w = start_after edit in
    let end = (length edit.front + length edit.old) + past in
    let stop = (length edit.front + length edit.new) + past in
    let b = width (onto edit.old (onto edit.front [])) in
    let c = width (onto edit.new (onto edit.front [])) in
    let x = width (take (past + gap) edit.rest) in
    let fits : b + width edit.rest < none_yet = subst (λ n. n < none_yet) (sym (whole-width edit.front edit.old edit.rest)) big in
    let fits_new : c + width edit.rest < none_yet = subst (λ n. n < none_yet) (sym (whole-width edit.front edit.new edit.rest)) big_new in
    let behind = rear lv edit past end stop refl refl last x 0 none_yet 0 none_yet (take-width (past + gap) edit.rest) fits fits_new (reach-none b c) (least-none (width edit.rest) b c none_yet fits fits_new) begins in
    let q_is : position (moved at z) ≡ b + x = ap (λ n. position (moved n z)) at_is ∙ position-at edit.front edit.old edit.rest past end refl gap in
    let r_is : position (moved at_new w) ≡ c + x = ap (λ n. position (moved n w)) new_is ∙ position-at edit.front edit.new edit.rest past stop refl gap in
    let ns = fresh_notes lv z (shift end last) in
    let ms = fresh_notes lv w (shift stop last) in
    grind arith

-- directly after them
pub same-at : (lv : ℕ) (edit : TextReplacement) (past : ℕ) (last : List Ask) → width (text_before edit) < 2 ^ 64 - 1 → width (text_after edit) < 2 ^ 64 - 1 → AllBeginIn past edit.rest last
    → (let end = (length edit.front + length edit.old) + past in let stop = (length edit.front + length edit.new) + past in SameAfter lv (start_before edit) (start_after edit) end stop end stop last)
same-at lv edit past last = same-after lv edit past 0 _ _ last (omega arith) (omega arith)

-- ---- the law

pub splice-law : SpliceLaw
splice-law lv edit past gap first second third last p q r big big_new ends noted within at_end at_stop begins =
    let z = start_before edit in
    let w = start_after edit in
    let end = (length edit.front + length edit.old) + past in
    let stop = (length edit.front + length edit.new) + past in
    let own = second ++ noting q ∷ [] in
    let own_new = third ++ noting r ∷ [] in
    let all = second ++ noting q ∷ shift end last in
    let all_new = third ++ noting r ∷ shift stop last in
    let s = same-after lv edit past gap (end + gap) (stop + gap) last refl refl big big_new begins in
    let ns = fresh_notes lv z (shift end last) in
    let ms = fresh_notes lv w (shift stop last) in
    let q_is = token-at z q (end + gap) at_end in
    let r_is = token-at w r (stop + gap) at_stop in
    let one = side-by lv z p own all _ _ _ _ (ap (λ n. entries_by n ns) q_is) (ap (λ n. back_of (last_start n ns) (least_from lv z none_yet (shift end last))) q_is) (side-ended lv z p q own all second [] (shift end last) refl tt refl) in
    let two = side-by lv w p own_new all_new _ _ _ _ (ap (λ n. entries_by n ms) r_is ∙ s.entries) (ap (λ n. back_of (last_start n ms) (least_from lv w none_yet (shift stop last))) r_is ∙ s.back)
    (side-ended lv w p r own_new all_new third [] (shift stop last) refl tt refl) in
    let count : notes_in first + notes_in own ≡ suc (notes_in first + notes_in second) = omega (arith, notes-one second q.at q.gap q.fewer q.mark q.state) in
    splice-sides lv edit.front (edit.old ++ edit.rest) (edit.new ++ edit.rest) first p own all own_new all_new _ _ ends noted within one two
    ∙ ap (λ n. spliced (notes_in first) n (entries_from (token_start w p) (logged lv w no_log own_new).notes) (units_of (logged lv z no_log (first ++ noting p ∷ all)))) count

-- ---- after the last token

-- Looks there, none of which goes back.
pub record Last (lv : ℕ) (z : Place) (at : ℕ) (last : List Ask) : Type 0 where
  pub entries : entries_at lv z at last ≡ []
  pub back : back_at lv z at last ≡ 0

pub each-bare : (look : Look) (asks : List Ask) → Every (λ a. a ≡ looked 0 look) asks → AllMarks Never asks
each-bare look [] h = tt
each-bare look (a ∷ asks) h = subst (λ b. AllMarks Never (b ∷ asks)) (sym h.0) (each-bare look asks h.1)

pub bare-shift : (d : ℕ) (asks : List Ask) → AllMarks Never asks → AllMarks Never (shift d asks)
bare-shift d [] h = tt
bare-shift d (looked at look ∷ asks) h = bare-shift d asks h
bare-shift d (marked at gap fewer m s ∷ asks) h = absurd h.0

near-here : (at : ℕ) (look : Look) (z : Place) → look.back ≡ 0 → position (moved at z) < near look.back (moved (at + 0) z)
unfolding near position stretch
near-here at look z e = grind arith

pub each-from : (at : ℕ) (look : Look) (z : Place) (asks : List Ask) → look.back ≡ 0 → Every (λ a. a ≡ looked 0 look) asks → AllFrom (position (moved at z)) z (shift at asks)
each-from at look z [] e h = tt
each-from at look z (a ∷ asks) e h = subst (λ c. AllFrom (position (moved at z)) z (shift at (c ∷ asks))) (sym h.0) (near-here at look z e, each-from at look z asks e h.1)

pub last-at : (lv : ℕ) (z : Place) (at : ℕ) (look : Look) (last : List Ask) → look.back ≡ 0 → Every (λ a. a ≡ looked 0 look) last → position (moved at z) < 2 ^ 64 - 1 → Last lv z at last
last-at lv z at look last none each fits =
    let here = position (moved at z) in
    let notes = notes-none lv z (shift at last) 0 none_yet (bare-shift at last (each-bare look last each)) in
    let back : back_of here (least_from lv z none_yet (shift at last)) ≡ 0 = omega (arith, least-over lv here z (shift at last) none_yet fits fits (each-from at look z last none each)) in
    record { entries = ap (entries_by here) notes; back = ap (λ ns. back_of (last_start here ns) (least_from lv z none_yet (shift at last))) notes ∙ back }
