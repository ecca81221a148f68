-- What stays true of what is remembered of first readings.
use Rattle.typst_language.proofs.Cited.{◌≡◌, ◌⊎◌, inl, inr, ℕ, zero, suc, ◌+◌, ◌-◌, ◌≤◌, min, true, List, [], ◌∷◌, Some, length, refl, ap, sym, ◌∙◌, subst, arith, rules, Place, moved, moved_from, moved_back, place, hull_of, Hull, Ask, only_looks, looked, marked, LiesIn, bytes_left, Stands, distance, ReadAhead, Log, logged, with_hull, is_leaf, hull_in, Guess, Guessing, Level, Guessed, AllSo, Comes, IsSo, Knows, LooksIn, end_of, View, Fits, Found, Remembers, place_after_paren, guess_at, insert, slice_get}
use Rattle.typst_language.specs.declared.calls.AfterName.{AfterName}
use Rattle.typst_language.proofs.Bytes.{none-bytes}
use Rattle.typst_language.proofs.Logs.{Among, with-again}
use Rattle.typst_language.proofs.Places.{ahead-left, moved-min, moved-sum}

-- ---- places of one text

pub end-moved : (n : ℕ) (z : Place) → end_of (moved n z) ≡ end_of z
end-moved n z =
    let k = length (moved n z).ahead in
    let left = ahead-left n z in
    let all : min (n + k) (length z.ahead) ≡ length z.ahead = omega arith in
    sym (moved-sum n k z) ∙ sym (moved-min (n + k) z) ∙ ap (λ m. moved m z) all

place-by : (b a c d : List ℕ) → moved_from (length a) b a ≡ moved_from (length d) c d → length a ≡ length d → ◌≡◌ {A = Place} (record { before = b; ahead = a }) (record { before = c; ahead = d })
place-by b [] c [] e l = e
place-by b [] c (y ∷ d) e l = absurd (omega arith)
place-by b (x ∷ a) c [] e l = absurd (omega arith)
place-by b (x ∷ a) c (y ∷ d) e l = ap moved_back (place-by (x ∷ b) a (y ∷ c) d e (omega arith))

order : (m n : ℕ) → (m ≤ n) ⊎ (n ≤ m)
order m n = grind arith

-- of two places of one text with as many bytes left, the one with more characters ahead has no more
no-more : (z w : Place) → end_of z ≡ end_of w → bytes_left z ≡ bytes_left w → length w.ahead ≤ length z.ahead → z ≡ w
no-more z w e f h =
    let n = length z.ahead - length w.ahead in
    let left = ahead-left n z in
    grind (arith, place-by, end-moved, none-bytes)

-- a place of a text is the only one with a given number of bytes left
pub only-place : (z w : Place) → end_of z ≡ end_of w → bytes_left z ≡ bytes_left w → z ≡ w
only-place z w e f = elim (order (length w.ahead) (length z.ahead)) [ inl h ↦ no-more z w e f h | inr h ↦ sym (no-more w z (sym e) (sym f) h) ]

-- where the token at hand ends
pub place-after : (a : ReadAhead) → Stands a → place a.after ≡ moved (distance a.before a.start + distance a.start a.after) (place a.before)
place-after a s = s.after ∙ ap (moved (distance a.start a.after)) s.start ∙ sym (moved-sum (distance a.before a.start) (distance a.start a.after) (place a.before))

-- ---- what is remembered

pub knows-at : {g : Guessing} {a b : Place} {xs ys : List Guessed} → xs ≡ ys → a ≡ b → Knows g b ys → Knows g a xs
knows-at {g = g} {a = a} {b = b} {xs = xs} {ys = ys} e f k = subst (λ (x : Place). Knows g x xs) (sym f) (subst (λ (zs : List Guessed). Knows g b zs) (sym e) k)

pub knows-none : {g : Guessing} {a : Place} {xs : List Guessed} → xs ≡ [] → Knows g a xs
knows-none {g = g} {a = a} e = subst (λ (zs : List Guessed). Knows g a zs) (sym e) (record { all = tt })

so-get : (g : Guessing) (a : Place) (es : List Guessed) (k : ℕ) (e : Guessed) → AllSo g a es → slice_get es k ≡ Some e → IsSo g a e
so-get g a [] k e h f = absurd (cc)
so-get g a (x ∷ es) zero e h f = grind arith
so-get g a (x ∷ es) (suc k) e h f = so-get g a es k e h.1 f

so-insert : (g : Guessing) (a : Place) (es : List Guessed) (k : ℕ) (e : Guessed) → AllSo g a es → IsSo g a e → AllSo g a (insert es k e)
so-insert g a [] zero e h i = (i, tt)
so-insert g a [] (suc k) e h i = (i, tt)
so-insert g a (x ∷ es) zero e h i = (i, h)
so-insert g a (x ∷ es) (suc k) e h i = (h.0, so-insert g a es k e h.1 i)

lies-through : {u v w : Hull} → LiesIn u v → LiesIn v w → LiesIn u w
lies-through h i = record { reach = omega (arith, h.reach, i.reach); least = omega (arith, h.least, i.least) }

pub looks-more : (u v : Hull) (z : Place) (asks : List Ask) → LiesIn u v → LooksIn u z asks → LooksIn v z asks
looks-more u v z [] i h = tt
looks-more u v z (looked at look ∷ asks) i h = (lies-through h.0 i, looks-more u v z asks i h.1)
looks-more u v z (marked at gap fewer mark s ∷ asks) i h = looks-more u v z asks i h

-- looks leave the notes
pub looks-notes : (levels : ℕ) (z : Place) (h : Log) (asks : List Ask) → (logged levels z h (only_looks asks)).notes ≡ h.notes
looks-notes levels z h [] = refl
looks-notes levels z h (looked at look ∷ asks) = looks-notes levels z (with_hull (hull_of look (moved at z)) h) asks
looks-notes levels z h (marked at gap fewer mark s ∷ asks) = looks-notes levels z h asks

-- what was looked at stays so
pub looks-among : (u : Hull) (levels : ℕ) (z : Place) (h : Log) (asks : List Ask) → Among u h → Among u (logged levels z h (only_looks asks))
looks-among u levels z h [] a = a
looks-among u levels z h (looked at look ∷ asks) a =
    let w = hull_of look (moved at z) in
    looks-among u levels z (with_hull w h) asks (record { reach = let r = a.reach in omega arith; least = let l = a.least in omega arith })
looks-among u levels z h (marked at gap fewer mark s ∷ asks) a = looks-among u levels z h asks a

-- the looks of a reading lie in what was looked at after it
pub looks-in : (n : ℕ) (z : Place) (h : Log) (asks : List Ask) → LooksIn (hull_in (logged n z h (only_looks asks))) z asks
looks-in n z h [] = tt
looks-in n z h (looked at look ∷ asks) =
    let u = hull_of look (moved at z) in
    let a = looks-among u n z (with_hull u h) asks (with-again u h) in
    (record { reach = a.reach; least = a.least }, looks-in n z (with_hull u h) asks)
looks-in n z h (marked at gap fewer mark s ∷ asks) = looks-in n z h asks

-- and in each stretch in which they and what was looked at before lie
pub looks-within : (n : ℕ) (z : Place) (h : Log) (asks : List Ask) (u : Hull) → LiesIn (hull_in h) u → LooksIn u z asks → LiesIn (hull_in (logged n z h (only_looks asks))) u
looks-within n z h [] u i k = i
looks-within n z h (looked at look ∷ asks) u i k =
    let w = hull_of look (moved at z) in
    looks-within n z (with_hull w h) asks u
    (record { reach = let a = i.reach in let b = k.0.reach in omega arith; least = let c = i.least in let d = k.0.least in omega arith }) k.1
looks-within n z h (marked at gap fewer mark s ∷ asks) u i k = looks-within n z h asks u i k

-- what was looked at before a reading lies in what was looked at after it
pub before-in : (n : ℕ) (z : Place) (h : Log) (asks : List Ask) → LiesIn (hull_in h) (hull_in (logged n z h (only_looks asks)))
before-in n z h asks = grind (arith, looks-among (hull_in h) n z h asks (record { reach = omega arith; least = omega arith }))

-- logs with the same notes in which each other's looks lie are the same
same-looks-log : (g h : Log) → g.notes ≡ h.notes → LiesIn (hull_in g) (hull_in h) → LiesIn (hull_in h) (hull_in g) → g ≡ h
same-looks-log g h e i k = grind arith

-- where the same stretches hold the looks of one reading and those of another, beside what was looked at before, both leave the same
pub same-looks : (n : ℕ) (h : Log) (z w : Place) (xs ys : List Ask)
    → ((u : Hull) → LiesIn (hull_in h) u → LooksIn u z xs → LooksIn u w ys) → ((u : Hull) → LiesIn (hull_in h) u → LooksIn u w ys → LooksIn u z xs)
    → logged n z h (only_looks xs) ≡ logged n w h (only_looks ys)
same-looks n h z w xs ys to from = search (rules, same-looks-log, looks-notes, looks-within, before-in, looks-in)

-- the stretch of a first reading is what it looks at, where its paren was looked at
pub comes-looks : {g : Guess} {paren hull : Hull} {z : Place} {b : AfterName} (n : ℕ) (h : Log) → Comes g paren hull z b → LiesIn paren (hull_in h) → with_hull hull h ≡ logged n z h (only_looks g.asks)
comes-looks {g = g} {paren = paren} {hull = hull} {z = z} n h c lies =
    let x = with_hull hull h in
    let y = logged n z h (only_looks g.asks) in
    let before = before-in n z h g.asks in
    let whole = c.least (hull_in y) (lies-through lies before) (looks-in n z h g.asks) in
    let inside = looks-within n z h g.asks (hull_in x) (record { reach = omega arith; least = omega arith }) (looks-more hull (hull_in x) z g.asks (record { reach = omega arith; least = omega arith }) c.looks) in
    grind (arith, same-looks-log, looks-notes)

-- what is remembered of the parens at hand comes after them
pub found-is : {l : Level} {v : View} (e : Guessed) (k levels left : ℕ) → Fits l v → slice_get v.memo k ≡ Some e → e.left ≡ left → left ≡ bytes_left (place_after_paren v)
    → is_leaf v.hand.token ≡ true → l.levels ≡ levels → e.levels ≡ levels → e.outer ≡ v.state.reading → LiesIn e.paren (hull_in v.log) → Found l v e.after e.hull
found-is {l = l} {v = v} e k levels left f at is here leaf m n o lies =
    let z = place_after_paren v in
    let comes : Comes (l.guess e.levels z e.outer) e.paren e.hull z e.after = so-get l.guess (end_of v.place) v.memo k e f.knows.all at z (end-moved (v.hand.gap + v.hand.len) v.place) (sym (is ∙ here)) in
    let same : l.guess e.levels z e.outer ≡ guess_at l v = rw (o, n, m) refl in
    let found : Comes (guess_at l v) e.paren e.hull z e.after = subst (λ (x : Guess). Comes x e.paren e.hull z e.after) same comes in
    record { leaf = leaf; after = found.after; looks = comes-looks l.levels v.log found lies }

-- one more is remembered
pub remembers-more : {v w : View} (levels : ℕ) (b : AfterName) (e : Guessed) (k : ℕ) → w ≡ record v { memo = insert v.memo k e } → is_leaf v.hand.token ≡ true
    → e.left ≡ bytes_left (place_after_paren v) → e.levels ≡ levels → e.outer ≡ v.state.reading → e.after ≡ b → e.paren ≡ v.here → e.hull ≡ hull_in v.log → Remembers levels b v w
remembers-more {v = v} {w = w} levels b e k is leaf left n o c p h = grind (arith, only-place, end-moved, knows-at, so-insert)

pub remembers-same : {v w : View} (levels : ℕ) (b : AfterName) → w ≡ v → Remembers levels b v w
remembers-same {v = v} levels b e = rw e (record { same = refl; knows = λ l m found all. all })
