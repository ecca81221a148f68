-- Where an outcome ends, and what was looked at for it.
use Rattle.typst_language.proofs.Cited.{◌≡◌, ℕ, ◌+◌, true, false, List, [], ◌∷◌, ◌++◌, map, None, refl, ap, ◌∙◌, arith, Place, moved, hull_of, Hull, Reading, Ask, shift, looked, marked, LiesIn, as_at_hand, Level, asked, before, entered, hand_asks_of, hand_of, inside, left, run, is_leaf, Point, LooksIn, Shape, after_shape, seen, itself, Begin, Parser, hand, takes, does, gives, next, scoped, wraps}
use Rattle.typst_language.proofs.Places.{moved-sum}

-- where each look lies
abbrev pub hulls : Place → List Ask → List Hull
hulls z [] = []
hulls z (looked at look ∷ asks) = hull_of look (moved at z) ∷ hulls z asks
hulls z (marked at gap fewer mark s ∷ asks) = hulls z asks

abbrev pub AllIn : Hull → List Hull → Type 0
AllIn u [] = Unit {0}
AllIn u (v ∷ vs) = LiesIn v u × AllIn u vs

pub looks-hulls : (u : Hull) (z : Place) (asks : List Ask) → LooksIn u z asks → AllIn u (hulls z asks)
looks-hulls u z [] h = tt
looks-hulls u z (looked at look ∷ asks) h = (h.0, looks-hulls u z asks h.1)
looks-hulls u z (marked at gap fewer mark s ∷ asks) h = looks-hulls u z asks h

pub hulls-looks : (u : Hull) (z : Place) (asks : List Ask) → AllIn u (hulls z asks) → LooksIn u z asks
hulls-looks u z [] h = tt
hulls-looks u z (looked at look ∷ asks) h = (h.0, hulls-looks u z asks h.1)
hulls-looks u z (marked at gap fewer mark s ∷ asks) h = hulls-looks u z asks h

pub in-both : (u : Hull) (xs ys : List Hull) → AllIn u xs → AllIn u ys → AllIn u (xs ++ ys)
in-both u [] ys h k = k
in-both u (x ∷ xs) ys h k = (h.0, in-both u xs ys h.1 k)

pub in-first : (u : Hull) (xs ys : List Hull) → AllIn u (xs ++ ys) → AllIn u xs
in-first u [] ys h = tt
in-first u (x ∷ xs) ys h = (h.0, in-first u xs ys h.1)

pub in-second : (u : Hull) (xs ys : List Hull) → AllIn u (xs ++ ys) → AllIn u ys
in-second u [] ys h = h
in-second u (x ∷ xs) ys h = in-second u xs ys h.1

hulls-append : (z : Place) (xs ys : List Ask) → hulls z (xs ++ ys) ≡ hulls z xs ++ hulls z ys
hulls-append z [] ys = refl
hulls-append z (looked at look ∷ xs) ys = ap (λ hs. hull_of look (moved at z) ∷ hs) (hulls-append z xs ys)
hulls-append z (marked at gap fewer mark s ∷ xs) ys = hulls-append z xs ys

hulls-shift : (n : ℕ) (z : Place) (ys : List Ask) → hulls z (shift n ys) ≡ hulls (moved n z) ys
hulls-shift n z [] = refl
hulls-shift n z (looked at look ∷ ys) = ap (λ w. hull_of look w ∷ hulls z (shift n ys)) (moved-sum n at z) ∙ ap (λ hs. hull_of look (moved at (moved n z)) ∷ hs) (hulls-shift n z ys)
hulls-shift n z (marked at gap fewer mark s ∷ ys) = hulls-shift n z ys

-- a parser at a place and a point answers this, ends there and in this state, and looks at this
pub record Is {A : Type 0} (l : Level) (p : Parser A) (z : Place) (s : Point) (a : A) (w : Place) (t : Point) (hs : List Hull) : Type 0 where
  pub value : (run l p z s).value ≡ a
  pub place : w ≡ moved (run l p z s).taken z
  pub state : t ≡ (run l p z s).state
  pub looks : hulls z (run l p z s).asks ≡ hs

pub is-next : {A B : Type 0} {l : Level} {p : Parser B} {f : B → Parser A} {b : B} {a : A} {z w y : Place} {s t x : Point} {hs ks : List Hull}
    → Is l p z s b w t hs → Is l (f b) w t a y x ks → Is l (next p f) z s a y x (hs ++ ks)
unfolding run
is-next {A = A} {l = l} {p = p} {f = f} {b = b} {a = a} {z = z} {w = w} {y = y} {s = s} {t = t} {x = x} {hs = hs} {ks = ks} h k = grind (arith, moved-sum, hulls-append, hulls-shift)

pub is-self : {A : Type 0} (l : Level) (p : Parser A) (z : Place) (s : Point) → (let o = run l p z s in Is l p z s o.value (moved o.taken z) o.state (hulls z o.asks))
is-self l p z s = record { value = refl; place = refl; state = refl; looks = refl }

pub is-gives : {A : Type 0} {l : Level} {a : A} (z : Place) (s : Point) → Is l (gives a) z s a z s []
unfolding run
is-gives z s = record { value = refl; place = refl; state = refl; looks = refl }

pub is-peek : {l : Level} (z : Place) (s : Point) → Is l (does hand) z s (as_at_hand (hand_of l z s)) z (asked (hand_of l z s) s) (hulls z (hand_asks_of l z s))
unfolding run
is-peek z s = record { value = refl; place = refl; state = refl; looks = refl }

pub is-scoped : {A : Type 0} {l : Level} (f : Reading → Reading) {p : Parser A} {a : A} {z w : Place} (s : Point) {t : Point} {hs : List Hull}
    → Is l p z (entered (f s.reading) s) a w t hs → Is l (scoped f p) z s a w (left s.reading t) hs
unfolding run
is-scoped f s h = record { value = h.value; place = h.place; state = ap (left s.reading) h.state; looks = h.looks }

-- what goes into a shape answers the same, and ends in a state with the same token at hand
pub is-wraps : {A : Type 0} {l : Level} (f : A → Shape) (begin : Begin) {p : Parser A} {a : A} {z w : Place} {s t : Point} {hs : List Hull}
    → Is l p z s a w t hs → (let ts = inside (before begin s) (run l p z s) in Is l (wraps f begin p) z s (a, map seen ts) w (after_shape (f a) ts t) hs)
unfolding run
is-wraps {l = l} f begin {p = p} {a = a} {z = z} {s = s} {t = t} h = grind arith

-- a leaf was taken: nothing before it counts any more
pub is-takes : {l : Level} (z : Place) (s : Point) → is_leaf (hand_of l z s).token ≡ true
    → Is l (does (takes false itself)) z s tt (moved ((hand_of l z s).gap + (hand_of l z s).len) z) (record s { held = s.reading; empties = 0; is_after_error = false; known = None }) (hulls z (hand_asks_of l z s))
unfolding run
is-takes {l = l} z s leaf = grind arith
