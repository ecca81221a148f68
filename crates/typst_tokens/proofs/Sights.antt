-- How far readers look, in bytes.
use Rattle.typst_tokens.proofs.Cited.{◌≡◌, ◌≤◌, ◌<◌, ℕ, zero, suc, ◌+◌, ◌-◌, max, min, Bool, true, false, List, [], ◌∷◌, ◌++◌, length, reverse, take, drop, slice_get, if◌then◌else◌, is_none, length-append, length-take-le, append_assoc, refl, sym, ap, ◌∙◌, arith, Option, Some, None, reverse-append, reverse-reverse, take-append-drop, encodes-chars, chars-append, IsUtf8-take, length-encode, len_utf8_bounds, prefix_len, encode_utf8, encode_utf8_all, chars, IsUtf8, IsCharBoundary, Place, place_at, char_width, moved, moved_from, moved_back, back_from, scout, run, past, answer, peek, glance, span, eat, see_run, skip, eat_run, width, position, stretch, far, near, Sight, Covers, fresh, saw, saw_back, saw_by, went, went_past, regard, sight, text_of, hull_of, turn, see, see_back, Hull}
use Rattle.typst_tokens.specs.Reader.{place, both, no_look, Step, ask, glimpse, spanned, span_look, Reader, exec, eaten, Look, look, from_before, from_far, skip_look}
use Rattle.typst_tokens.proofs.Moves.{exec-moved, moved-more}

-- ---- bytes

pub width-append : (xs ys : List ℕ) → width (xs ++ ys) ≡ width xs + width ys
unfolding width
width-append [] ys = omega arith
width-append (c ∷ xs) ys = omega (arith, width-append xs ys)

width-reverse : (xs : List ℕ) → width (reverse xs) ≡ width xs
unfolding width
width-reverse [] = refl
width-reverse (c ∷ xs) = ap width (reverse-append (c ∷ []) xs) ∙ omega (arith, width-append (reverse xs) (c ∷ []), width-reverse xs)

pub width-encodes : (xs : List ℕ) → length (encode_utf8_all xs) ≡ width xs
unfolding width char_width
width-encodes [] = refl
width-encodes (c ∷ xs) = omega (arith, length-append (encode_utf8 c) (encode_utf8_all xs), length-encode c, width-encodes xs)

-- a byte offset is the bytes before it
pub offset-is : (text : List ℕ) (i : ℕ) → IsUtf8 text → IsCharBoundary text i → i ≡ position (place_at text i)
unfolding position place_at
offset-is text i u b =
    let front = take i text in
    let whole = ap length (encodes-chars front (IsUtf8-take text i u b)) in
    omega (arith, whole, width-encodes (chars front), width-reverse (chars front), length-take-le i text b.0)

stretch-max : (a b : ℕ) (cs : List ℕ) → stretch (max a b) cs ≡ max (stretch a cs) (stretch b cs)
unfolding stretch
stretch-max zero b cs = let e : max 0 b ≡ b = omega arith in rw e (omega arith)
stretch-max (suc a) zero cs = let e : max (suc a) 0 ≡ suc a = omega arith in rw e (omega arith)
stretch-max (suc a) (suc b) [] = let e : max (suc a) (suc b) ≡ suc (max a b) = omega arith in rw e refl
stretch-max (suc a) (suc b) (c ∷ cs) = let e : max (suc a) (suc b) ≡ suc (max a b) = omega arith in rw e (omega (arith, stretch-max a b cs))

pub far-max : (a b : ℕ) (z : Place) → far (max a b) z ≡ max (far a z) (far b z)
unfolding far
far-max a b z = omega (arith, stretch-max a b z.ahead)

pub near-max : (a b : ℕ) (z : Place) → near (max a b) z ≡ min (near a z) (near b z)
unfolding near
near-max a b z = omega (arith, stretch-max a b z.before)

pub far-none : (z : Place) → far 0 z ≡ position z
unfolding far stretch
far-none z = omega arith

pub near-none : (z : Place) → near 0 z ≡ suc (position z)
unfolding near stretch
near-none z = omega arith

pub far-le : (n : ℕ) (z : Place) → position z ≤ far n z
unfolding far
far-le n z = omega arith

pub near-le : (n : ℕ) (z : Place) → near n z ≤ suc (position z)
unfolding near
near-le n z = omega arith

-- one character on
position-on : (c : ℕ) (b a : List ℕ) → position (place (c ∷ b) a) ≡ char_width c + position (place b (c ∷ a))
unfolding position width
position-on c b a = refl

pub far-on : (n c : ℕ) (b a : List ℕ) → far (suc n) (place b (c ∷ a)) ≡ far n (place (c ∷ b) a)
unfolding far stretch
far-on n c b a = omega (arith, position-on c b a)

pub near-on : (n c : ℕ) (b a : List ℕ) → near (suc n) (place (c ∷ b) a) ≡ near n (place b (c ∷ a))
unfolding near stretch
near-on n c b a = omega (arith, position-on c b a)

pub far-end : (n : ℕ) (b : List ℕ) → far (suc n) (place b []) ≡ suc (position (place b []))
unfolding far stretch
far-end n b = omega arith

pub far-moved : (m n : ℕ) (b a : List ℕ) → far (suc m) (moved_from n b a) ≡ far (suc (m + n)) (place b a)
far-moved m zero b a = let e : m + 0 ≡ m = omega arith in rw e refl
far-moved m (suc n) b [] = far-end m b ∙ sym (far-end (m + suc n) b)
far-moved m (suc n) b (c ∷ a) = let e : m + suc n ≡ suc (m + n) = omega arith in rw e (far-moved m n (c ∷ b) a ∙ sym (far-on (suc (m + n)) c b a))

position-moved : (n : ℕ) (b a : List ℕ) → position (moved_from n b a) ≤ far n (place b a)
position-moved zero b a = omega (arith, far-none (place b a))
position-moved (suc n) b [] = far-le (suc n) (place b [])
position-moved (suc n) b (c ∷ a) = omega (arith, far-on n c b a, position-moved n (c ∷ b) a)

position-grows : (n : ℕ) (b a : List ℕ) → position (place b a) ≤ position (moved_from n b a)
position-grows zero b a = omega arith
position-grows (suc n) b [] = omega arith
position-grows (suc n) b (c ∷ a) = omega (arith, position-on c b a, position-grows n (c ∷ b) a)

pub position-step : (c : ℕ) (z : Place) → Some c ≡ scout 0 z → position z < position (moved 1 z)
unfolding char_width
position-step c z e = grind (arith, len_utf8_bounds, position-on)

-- a look that read this character last ends after it, or after the mark
end-from : (n : ℕ) (b a : List ℕ) → position (moved_from (suc n) b a) + (if is_none (slice_get a n) then 1 else 0) ≡ far (suc n) (place b a)
end-from n b [] = let e : is_none {T = ℕ} (slice_get [] n) ≡ true = refl in omega (arith, far-end n b)
end-from zero b (c ∷ a) = omega (arith, far-on 0 c b a, far-none (place (c ∷ b) a))
end-from (suc n) b (c ∷ a) = end-from n (c ∷ b) a ∙ sym (far-on (suc n) c b a)

pub end-is : (n : ℕ) (z : Place) (o : Option ℕ) → o ≡ scout n z → position (moved (suc n) z) + (if is_none o then 1 else 0) ≡ far (suc n) z
end-is n z o e = rw e (end-from n z.before z.ahead)

-- the mark or the character before
pub near-some : (z : Place) (c : ℕ) → Some c ≡ slice_get z.before 0 → suc (position (moved_back z)) ≡ near 1 z
near-some z c e = some z.before z.ahead e
  where
    some : (b a : List ℕ) → Some c ≡ slice_get b 0 → suc (position (back_from b a)) ≡ near 1 (place b a)
    some b a e = grind (arith, near-on, near-none)

pub near-start : (z : Place) → None ≡ slice_get z.before 0 → 0 ≡ near 1 z
unfolding near stretch position width
near-start z e = grind arith

-- ---- sights

pub same-sight : (z w : Place) (r s l m : ℕ) → z ≡ w → r ≡ s → l ≡ m → ◌≡◌ {A = Sight} (record { place = z; reach = r; least = l }) (record { place = w; reach = s; least = m })
same-sight z w r s l m e f g = rw (e, f, g) refl

pub covers-saw : (n : ℕ) (v : Sight) → Covers v → Covers (saw n v)
covers-saw n v h = record { reach = omega (arith, h.reach); least = h.least }

pub covers-saw_back : (n : ℕ) (v : Sight) → Covers v → Covers (saw_back n v)
covers-saw_back n v h = record { reach = h.reach; least = omega (arith, h.least) }

pub covers-saw_by : (l : Look) (v : Sight) → Covers v → Covers (saw_by l v)
covers-saw_by l v h = record { reach = omega (arith, h.reach); least = omega (arith, h.least) }

pub covers-went : (n : ℕ) (v : Sight) → Covers v → Covers (went n v)
covers-went n v h = grind (arith, position-moved, position-grows)

pub covers-past : (test : ℕ → Bool) (v : Sight) → Covers v → Covers (went_past test v)
covers-past test v h = let n = prefix_len test v.place.ahead in covers-went n (saw (suc n) v) (covers-saw (suc n) v h)

-- who eats a character looks at it
pub went-seen : (v : Sight) → went 1 (saw 1 v) ≡ went 1 v
went-seen v = same-sight _ _ _ _ _ _ refl (omega arith) refl

pub covers-fresh : (z : Place) → Covers (fresh z)
covers-fresh z = record { reach = omega arith; least = omega arith }

-- looks at both
pub saw-both : (l m : Look) (v : Sight) → saw_by (both l m) v ≡ saw_by m (saw_by l v)
saw-both l m v = same-sight _ _ _ _ _ _ refl (omega (arith, far-max l.front m.front v.place)) (omega (arith, near-max l.back m.back v.place))

pub saw-nothing : (v : Sight) → Covers v → saw_by no_look v ≡ v
saw-nothing v h = same-sight _ _ _ _ _ _ refl (omega (arith, far-none v.place, h.reach)) (omega (arith, near-none v.place, h.least))

pub went-nowhere : (v : Sight) → Covers v → went 0 v ≡ v
went-nowhere v h = same-sight _ _ _ _ _ _ refl (omega (arith, far-none v.place, h.reach)) refl

pub saw-ahead : (n : ℕ) (v : Sight) → Covers v → saw_by (record { back = 0; front = n }) v ≡ saw n v
saw-ahead n v h = same-sight _ _ _ _ _ _ refl refl (omega (arith, near-none v.place, h.least))

pub saw-back : (n : ℕ) (v : Sight) → Covers v → saw_by (record { back = n; front = 0 }) v ≡ saw_back n v
saw-back n v h = same-sight _ _ _ _ _ _ refl (omega (arith, far-none v.place, h.reach)) refl

-- the same stretch, from one character before, and from several
abbrev as_place : Place → Sight → Sight
as_place z v = record v { place = z }

back-on : (k c m : ℕ) (b a : List ℕ) → m ≤ suc (position (place b (c ∷ a))) → min m (near (k - 1) (place b (c ∷ a))) ≡ min m (near k (place (c ∷ b) a))
back-on zero c m b a h = omega (arith, near-none (place b (c ∷ a)), near-none (place (c ∷ b) a), position-on c b a, h)
back-on (suc k) c m b a h = let e : suc k - 1 ≡ k = omega arith in rw e (omega (arith, near-on k c b a))

pub saw-before : (l : Look) (r m : ℕ) (b a : List ℕ) → Covers (record { place = place b a; reach = r; least = m })
    → as_place (moved_from 1 b a) (saw_by (from_before a l) (record { place = place b a; reach = r; least = m })) ≡ saw_by l (went 1 (record { place = place b a; reach = r; least = m }))
saw-before l r m b a h = grind (arith, same-sight, far-max, far-on, far-none, far-le, back-on)

went-twice : (n r m : ℕ) (b a : List ℕ) → went n (went 1 (record { place = place b a; reach = r; least = m })) ≡ went (suc n) (record { place = place b a; reach = r; least = m })
went-twice n r m b [] = same-sight _ _ _ _ _ _ (still n) (front n) refl
  where
    still : (n : ℕ) → moved_from n b [] ≡ place b []
    still n = grind arith

    front : (n : ℕ) → max (max r (far 1 (place b []))) (far n (place b [])) ≡ max r (far (suc n) (place b []))
    front zero = omega (arith, far-none (place b []), far-le 1 (place b []))
    front (suc n) = omega (arith, far-end 0 b, far-end n b, far-end (suc n) b)
went-twice n r m b (c ∷ a) = grind (arith, same-sight, far-on, far-none, far-le)

pub saw-skipped : (n : ℕ) (l : Look) (r m : ℕ) (b a : List ℕ) → Covers (record { place = place b a; reach = r; least = m })
    → as_place (moved_from n b a) (saw_by (skip_look n a l) (record { place = place b a; reach = r; least = m })) ≡ saw_by l (went n (record { place = place b a; reach = r; least = m }))
saw-skipped zero l r m b a h = ap (saw_by l) (sym (went-nowhere _ h))
saw-skipped (suc n) l r m b [] h =
    saw-before l r m b [] h ∙ ap (saw_by l) (sym (went-end n))
  where
    went-end : (n : ℕ) → went (suc n) (record { place = place b []; reach = r; least = m }) ≡ went 1 (record { place = place b []; reach = r; least = m })
    went-end n = same-sight _ _ _ _ _ _ refl (omega (arith, far-end 0 b, far-end n b)) refl
saw-skipped (suc n) l r m b (c ∷ a) h =
    let v : Sight = record { place = place b (c ∷ a); reach = r; least = m } in
    ap (as_place (moved_from n (c ∷ b) a)) (saw-before (skip_look n a l) r m b (c ∷ a) h)
    ∙ saw-skipped n l _ m (c ∷ b) a (covers-went 1 v h)
    ∙ ap (saw_by l) (went-twice n r m b (c ∷ a))

same-look : (b c f g : ℕ) → b ≡ c → f ≡ g → ◌≡◌ {A = Look} (record { back = b; front = f }) (record { back = c; front = g })
same-look b c f g e h = rw (e, h) refl

from_far-is : (n : ℕ) (l : Look) (a : List ℕ) → n ≤ length a → from_far n l ≡ skip_look n a l
from_far-is zero l a h = same-look _ _ _ _ (omega arith) (omega arith)
from_far-is (suc n) l [] h = absurd (omega arith)
from_far-is (suc n) l (c ∷ a) h = same-look _ _ _ _ (omega arith) (omega arith) ∙ ap (from_before (c ∷ a)) (from_far-is n l a (omega arith))

prefix-most : (test : ℕ → Bool) (a : List ℕ) → prefix_len test a ≤ length a
prefix-most test [] = omega arith
prefix-most test (c ∷ a) = elim (test c) as (λ t. (if t then 1 + prefix_len test a else 0) ≤ suc (length a)) [ true ↦ omega (arith, prefix-most test a) | false ↦ omega arith ]

-- questions at one place
pub regard-is : {A : Type 0} (s : Step A) (v : Sight) → Covers v → regard s v ≡ (ask s v.place, saw_by (glimpse s v.place) v)
regard-is (turn a) v h = ap (λ w. (a, w)) (sym (saw-nothing v h))
regard-is (see n k) v h =
    let rest = k (scout n v.place) in
    regard-is (k (scout n v.place)) (saw (suc n) v) (covers-saw (suc n) v h)
    ∙ ap (λ w. (ask rest v.place, saw_by (glimpse rest v.place) w)) (sym (saw-ahead (suc n) v h))
    ∙ ap (λ w. (ask rest v.place, w)) (sym (saw-both (record { back = 0; front = suc n }) (glimpse rest v.place) v))
regard-is (see_back k) v h =
    let rest = k (slice_get v.place.before 0) in
    regard-is (k (slice_get v.place.before 0)) (saw_back 1 v) (covers-saw_back 1 v h)
    ∙ ap (λ w. (ask rest v.place, saw_by (glimpse rest v.place) w)) (sym (saw-back 1 v h))
    ∙ ap (λ w. (ask rest v.place, w)) (sym (saw-both (record { back = 1; front = 0 }) (glimpse rest v.place) v))

-- what a reader answers, where, and what it looked at on the way
pub sight-is : {M A : Type 0} (r : Reader M A) (v : Sight) → Covers v → sight r v ≡ ((exec r v.place).0, as_place (exec r v.place).1 (saw_by (look r v.place) v))
sight-is (answer a) v h = ap (λ w. (a, w)) (sym (saw-nothing v h))
sight-is (peek n k) v h =
    let rest = k (scout n v.place) in
    let e = exec rest v.place in
    sight-is (k (scout n v.place)) (saw (suc n) v) (covers-saw (suc n) v h)
    ∙ ap (λ w. (e.0, as_place e.1 (saw_by (look rest v.place) w))) (sym (saw-ahead (suc n) v h))
    ∙ ap (λ w. (e.0, as_place e.1 w)) (sym (saw-both (record { back = 0; front = suc n }) (look rest v.place) v))
sight-is (glance n k) v h =
    let rest = k (slice_get v.place.before n) in
    let e = exec rest v.place in
    sight-is (k (slice_get v.place.before n)) (saw_back (suc n) v) (covers-saw_back (suc n) v h)
    ∙ ap (λ w. (e.0, as_place e.1 (saw_by (look rest v.place) w))) (sym (saw-back (suc n) v h))
    ∙ ap (λ w. (e.0, as_place e.1 w)) (sym (saw-both (record { back = suc n; front = 0 }) (look rest v.place) v))
sight-is (span m state k) v h =
    let r = spanned m state v.place.before v.place.ahead in
    let l = span_look m state v.place.before v.place.ahead in
    let rest = k r.0 r.1 in
    let e = exec rest v.place in
    sight-is (k r.0 r.1) (saw_by l v) (covers-saw_by l v h)
    ∙ ap (λ w. (e.0, as_place e.1 w)) (sym (saw-both l (look rest v.place) v))
sight-is (eat r) v h =
    let e = exec r (moved 1 v.place) in
    sight-is r (went 1 v) (covers-went 1 v h)
    ∙ ap (λ w. (e.0, as_place e.1 w)) (sym (saw-before (look r (moved 1 v.place)) v.reach v.least v.place.before v.place.ahead h))
sight-is (see_run test k) v h =
    let rest = k (run test v.place) in
    let n = suc (prefix_len test v.place.ahead) in
    let e = exec rest v.place in
    sight-is (k (run test v.place)) (saw n v) (covers-saw n v h)
    ∙ ap (λ w. (e.0, as_place e.1 (saw_by (look rest v.place) w))) (sym (saw-ahead n v h))
    ∙ ap (λ w. (e.0, as_place e.1 w)) (sym (saw-both (record { back = 0; front = n }) (look rest v.place) v))
sight-is (skip n r) v h =
    let e = exec r (moved n v.place) in
    sight-is r (went n v) (covers-went n v h)
    ∙ ap (λ w. (e.0, as_place e.1 w)) (sym (saw-skipped n (look r (moved n v.place)) v.reach v.least v.place.before v.place.ahead h))
sight-is (eat_run test k) v h =
    let rest = k (run test v.place) in
    let n = prefix_len test v.place.ahead in
    let e = exec rest (past test v.place) in
    let l = look rest (past test v.place) in
    let u = saw (suc n) v in
    sight-is (k (run test v.place)) (went n u) (covers-went n u (covers-saw (suc n) v h))
    ∙ ap (λ w. (e.0, as_place e.1 w)) (sym (saw-skipped n l u.reach u.least v.place.before v.place.ahead (covers-saw (suc n) v h)))
    ∙ ap (λ k. (e.0, as_place e.1 (saw_by k u))) (sym (from_far-is n l v.place.ahead (prefix-most test v.place.ahead)))
    ∙ ap (λ w. (e.0, as_place e.1 (saw_by (from_far n l) w))) (sym (saw-ahead (suc n) v h))
    ∙ ap (λ w. (e.0, as_place e.1 w)) (sym (saw-both (record { back = 0; front = suc n }) (from_far n l) v))

-- what is read from a place, at which nothing was looked at yet
pub read-is : {M A : Type 0} (r : Reader M A) (z : Place) (a : A) (v : Sight) → sight r (fresh z) ≡ (a, v) → exec r z ≡ (a, v.place)
read-is r z a v e = let f = sym (sight-is r (fresh z) (covers-fresh z)) ∙ e in ap (λ p. (p.0, p.1.place)) f

pub same-hull : (r s l m : ℕ) → r ≡ s → l ≡ m → ◌≡◌ {A = Hull} (record { reach = r; least = l }) (record { reach = s; least = m })
same-hull r s l m e f = rw (e, f) refl

pub hull-is : {M A : Type 0} (r : Reader M A) (z : Place) (a : A) (v : Sight) → sight r (fresh z) ≡ (a, v) → ◌≡◌ {A = Hull} (record { reach = v.reach; least = v.least }) (hull_of (look r z) z)
hull-is r z a v e =
    let f = sym (sight-is r (fresh z) (covers-fresh z)) ∙ e in
    let l = look r z in
    sym (ap (λ p. record { reach = p.1.reach; least = p.1.least }) f)
    ∙ same-hull _ _ _ _ (omega (arith, far-le l.front z)) (omega (arith, near-le l.back z))

-- ---- what functions of the cursor do

-- a look that read a character last
pub far-read : (n : ℕ) (z y : Place) (o : Option ℕ) (e : ℕ) → e ≡ position y + (if is_none o then 1 else 0) → y ≡ moved (suc n) z → o ≡ scout n z → e ≡ far (suc n) z
far-read n z y o e f g h = f ∙ ap (λ w. position w + (if is_none o then 1 else 0)) g ∙ end-is n z o h

pub peeked : (n : ℕ) (z y : Place) (o : Option ℕ) (r l m e : ℕ) → m ≡ max r e → e ≡ position y + (if is_none o then 1 else 0) → y ≡ moved (suc n) z → o ≡ scout n z
    → ◌≡◌ {A = Sight} (record { place = z; reach = m; least = l }) (saw (suc n) (record { place = z; reach = r; least = l }))
peeked n z y o r l m e g f p h = same-sight _ _ _ _ _ _ refl (g ∙ ap (max r) (far-read n z y o e f p h)) refl

pub ate : (n : ℕ) (z y : Place) (o : Option ℕ) (r l m e : ℕ) → m ≡ max r e → e ≡ position y + (if is_none o then 1 else 0) → y ≡ moved (suc n) z → o ≡ scout n z
    → ◌≡◌ {A = Sight} (record { place = y; reach = m; least = l }) (went (suc n) (record { place = z; reach = r; least = l }))
ate n z y o r l m e g f p h = same-sight _ _ _ _ _ _ p (g ∙ ap (max r) (far-read n z y o e f p h)) refl

-- who looks further sees no less
pub far-next : (n : ℕ) (z : Place) → far n z ≤ far (suc n) z
far-next n z = let e : max n (suc n) ≡ suc n = omega arith in omega (arith, far-max n (suc n) z, ap (λ k. far k z) e)

-- a run and what ends it were looked at, and the run was eaten
pub ran : (n : ℕ) (z y w : Place) (o : Option ℕ) (r l m e : ℕ) → m ≡ max r e → e ≡ position w + (if is_none o then 1 else 0) → w ≡ moved 1 y → o ≡ scout 0 y → y ≡ moved n z
    → ◌≡◌ {A = Sight} (record { place = y; reach = m; least = l }) (went n (saw (suc n) (record { place = z; reach = r; least = l })))
ran n z y w o r l m e g f p h q =
    let up : suc (0 + n) ≡ suc n = omega arith in
    grind (arith, far-read 0 y w o e f p h ∙ ap (far 1) q ∙ far-moved 0 n z.before z.ahead ∙ ap (λ k. far k z) up, same-sight, far-next)

pub two-moved : (z y x : Place) → y ≡ moved 1 z → x ≡ moved 1 y → x ≡ moved 2 z
two-moved z y x e f = f ∙ ap (moved 1) e ∙ moved-more 1 1 z.before z.ahead

pub two-scout : (z y : Place) (o : Option ℕ) → y ≡ moved 1 z → o ≡ scout 0 y → o ≡ scout 1 z
two-scout z y o e f = grind arith

-- where a look begins that read a character last
pub start-is : (z y : Place) (o : Option ℕ) (e : ℕ) → e ≡ (if is_none o then 0 else position y + 1) → y ≡ moved_back z → o ≡ slice_get z.before 0 → e ≡ near 1 z
start-is z y o e f g h = grind (arith, near-start, near-some)

-- and further back
back-on-one : (n : ℕ) (z y : Place) → y ≡ moved_back z → (slice_get y.before n ≡ slice_get z.before (suc n)) × (near (suc n) y ≡ near (suc (suc n)) z)
unfolding near stretch position width
back-on-one n z y e = grind arith

pub second-start-is : (z y x : Place) (o : Option ℕ) (e : ℕ) → e ≡ (if is_none o then 0 else position x + 1) → y ≡ moved_back z → x ≡ moved_back y → o ≡ slice_get y.before 0
    → (o ≡ slice_get z.before 1) × (e ≡ near 2 z)
second-start-is z y x o e f g h k = let b = back-on-one 0 z y g in (k ∙ b.0, start-is y x o e f h k ∙ b.1)

pub third-start-is : (z y x w : Place) (o : Option ℕ) (e : ℕ) → e ≡ (if is_none o then 0 else position w + 1) → y ≡ moved_back z → x ≡ moved_back y → w ≡ moved_back x → o ≡ slice_get x.before 0
    → (o ≡ slice_get z.before 2) × (e ≡ near 3 z)
third-start-is z y x w o e f g h i k = let b = back-on-one 1 z y g in let s = second-start-is y x w o e f h i k in (s.0 ∙ b.0, s.1 ∙ b.1)

pub glanced : (n : ℕ) (z : Place) (r l m s : ℕ) → m ≡ min l s → s ≡ near n z → ◌≡◌ {A = Sight} (record { place = z; reach = r; least = m }) (saw_back n (record { place = z; reach = r; least = l }))
glanced n z r l m s g f = same-sight _ _ _ _ _ _ refl refl (g ∙ ap (min l) f)

-- ---- the text around a place

pub text-on : (n : ℕ) (b a : List ℕ) → reverse (moved_from n b a).before ++ (moved_from n b a).ahead ≡ reverse b ++ a
text-on zero b a = refl
text-on (suc n) b [] = refl
text-on (suc n) b (c ∷ a) = text-on n (c ∷ b) a ∙ ap (λ t. t ++ a) (reverse-append (c ∷ []) b) ∙ append_assoc (reverse b) (c ∷ []) a

text-moved : (n : ℕ) (z : Place) → text_of (moved n z) ≡ text_of z
unfolding text_of
text-moved n z = ap encode_utf8_all (text-on n z.before z.ahead)

-- a reader stays in its text
pub text-read : {M A : Type 0} (r : Reader M A) (z : Place) → text_of (exec r z).1 ≡ text_of z
text-read r z = ap text_of (exec-moved r z) ∙ text-moved (eaten r z) z

pub text-is : (text : List ℕ) (i : ℕ) → IsUtf8 text → IsCharBoundary text i → text ≡ text_of (place_at text i)
unfolding text_of place_at
text-is text i u b =
    let cs = chars (take i text) in
    sym (encodes-chars text u) ∙ ap (λ t. encode_utf8_all (chars t)) (sym (take-append-drop i text))
    ∙ ap encode_utf8_all (chars-append (take i text) (drop i text) (IsUtf8-take text i u b))
    ∙ ap (λ t. encode_utf8_all (t ++ chars (drop i text))) (sym (reverse-reverse cs))
