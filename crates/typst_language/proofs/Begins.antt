-- Readings that begin by taking the token at hand, and so leave what stood before it.
use Rattle.typst_language.proofs.Cited.{Option, ◌≡◌, ℕ, ◌+◌, ◌-◌, ◌<◌, Bool, true, false, if◌then◌else◌, List, [], ◌++◌, length, take, drop, append_assoc, append-nil, length-append, refl, ap, sym, ◌∙◌, subst, arith, moved, Tree, Reading, Point, Trivia, pending, AtHand, Hand, as_at_hand, Making, Shape, shaped, itself, Sound, eat, eat_making, Parser, at_token, hand, takes, does, gives, next, scoped, wraps, Level, Outcome, asked, entered, hand_of, joined, run, View, Ran, Fits, at, Leaves, first_of, take-length}
use Rattle.typst_language.proofs.Backs.{backs-run}
use Rattle.typst_language.proofs.HintedNodes.{hinted-append, length-hinted}
use Rattle.typst_language.proofs.Places.{take-both, drop-both, drop-all, less-none}
use Rattle.typst_language.proofs.Runs.{asked-same}
use Rattle.typst_lines.proofs.CommonEnds.{same-test}

-- an outcome gives these trivia first, and more, and does nothing to what stood before
pub record Gives {A : Type 0} (ts : List Tree) (o : Outcome A) : Type 0 where
  pub back : o.back ≡ 0
  pub hints : o.hints ≡ []
  pub rest : List Tree
  pub nodes : o.nodes ≡ ts ++ rest
  pub more : 0 < length rest

-- a parser passes the trivia at hand first
pub record Begins {A : Type 0} (l : Level) (p : Parser A) (v : View) : Type 0 where
  pub gives : Gives v.hand.trivia (at l p v)

-- ---- what it leaves

front-of : (xs ys : List Tree) → take (length xs) (xs ++ ys) ≡ xs
front-of xs ys = grind (arith, take-both, append-nil, take-length)

back-of : (xs ys : List Tree) → drop (length xs) (xs ++ ys) ≡ ys
back-of xs ys = grind (arith, drop-both, drop-all)

first-is : (ts rest held : List Tree) → first_of (length ts) (ts ++ rest) held ≡ ts
first-is ts rest held = rw (front-of ts rest, same-test (length ts)) refl

pub begins-leaves : {A : Type 0} {l : Level} {p : Parser A} {a : A} {old mid : View} → Begins l p old → Ran l p a old mid → Leaves old mid
begins-leaves {l = l} {p = p} {old = old} {mid = mid} e r = grind (arith, less-none, front-of, back-of, first-is)

-- ---- what begins so

pub begins-takes : {l : Level} {making : Making} (v : View) → Fits l v → Begins l (does (takes false making)) v
unfolding run
begins-takes {l = l} {making = making} v c = grind arith

gives-next : {A B : Type 0} (ts : List Tree) (o : Outcome B) (r : Outcome A) → Gives ts o → r.back ≡ 0 → Gives ts (joined o r)
gives-next ts o r b zero = grind (arith, length-append, less-none, hinted-append, append_assoc, length-hinted)

-- more may come that takes nothing back
pub begins-then : {A B : Type 0} {l : Level} {p : Parser B} {f : B → Parser A} {v : View} → Begins l p v → (let o = at l p v in (run l (f o.value) (moved o.taken v.place) o.state).back) ≡ 0 → Begins l (next p f) v
unfolding run
begins-then {l = l} {p = p} {f = f} {v = v} b zero = let o = at l p v in record { gives = gives-next v.hand.trivia o (run l (f o.value) (moved o.taken v.place) o.state) b.gives zero }

-- more may come, where no empty error was taken first
pub begins-next : {A B : Type 0} {l : Level} {p : Parser B} {f : B → Parser A} {v : View} → Sound l → Begins l p v → (at l p v).state.empties ≡ 0 → Begins l (next p f) v
unfolding run
begins-next {l = l} {p = p} {f = f} {v = v} sound b none = grind (arith, backs-run, gives-next)

-- the token may be taken by itself
pub begins-eat : {l : Level} {v : View} → Fits l v → Begins l eat v
unfolding run eat eat_making
begins-eat {l = l} {v = v} c =
    let b = begins-takes {l = l} {making = itself} v c in
    let o = at l (does (takes false itself)) v in
    record { gives = gives-next v.hand.trivia o (run l (next (does hand) (λ _. gives tt)) (moved o.taken v.place) o.state) b.gives (omega arith) }

-- what begins so and then answers begins so
pub begins-gives : {A B : Type 0} {l : Level} {p : Parser B} {f : B → A} {v : View} → Begins l p v → Begins l (next p (λ b. gives (f b))) v
unfolding run
begins-gives {l = l} {p = p} {f = f} {v = v} b = let o = at l p v in record { gives = gives-next v.hand.trivia o (run l (gives (f o.value)) (moved o.taken v.place) o.state) b.gives refl }

no-hints : (a b : Bool) (hs : List (List ℕ)) → hs ≡ [] → ◌≡◌ {A = List (List ℕ)} (if a then [] else (if b then hs else [] ++ hs)) []
no-hints true b hs e = refl
no-hints false true hs e = e
no-hints false false hs e = e

-- before it gives anything a parser may ask
gives-asked : {A B : Type 0} (ts : List Tree) (o : Outcome B) (r : Outcome A) → o.back ≡ 0 → o.hints ≡ [] → o.nodes ≡ [] → Gives ts r → Gives ts (joined o r)
gives-asked ts o r e h n b = grind (arith, no-hints, less-none)

-- the token at hand may be asked for before
pub begins-peek : {A : Type 0} {l : Level} {f : AtHand → Parser A} {v : View} → Fits l v → Begins l (f (as_at_hand v.hand)) v → Begins l (next (does hand) f) v
unfolding run
begins-peek {l = l} {f = f} {v = v} c b =
    let g = hand_of l v.place v.state in
    let q = run l (f (as_at_hand g)) v.place (asked g v.state) in
    let e : q ≡ at l (f (as_at_hand v.hand)) v = ap (λ (x : Hand). run l (f (as_at_hand x)) v.place (asked x v.state)) (sym c.hand) ∙ ap (λ (s : Point). run l (f (as_at_hand v.hand)) v.place s) (sym (asked-same l v c)) in
    record { gives = gives-asked v.hand.trivia (at l (does hand) v) q refl refl refl (subst (λ (x : Outcome _). Gives v.hand.trivia x) (sym e) b.gives) }

pub begins-scoped : {A : Type 0} {l : Level} {f : Reading → Reading} {p : Parser A} {v : View} → Begins l p (record v { state = entered (f v.state.reading) v.state }) → Begins l (scoped f p) v
unfolding run
begins-scoped b = let g = b.gives in record { gives = record { back = g.back; hints = g.hints; rest = g.rest; nodes = g.nodes; more = g.more } }

some-shaped : (shape : Shape) (ts : List Tree) → 0 < length ts → 0 < length (shaped shape ts)
some-shaped shape ts h = grind arith

pub begins-wraps : {A : Type 0} {l : Level} {f : A → Shape} {p : Parser A} {v : View} → Fits l v → Begins l p v → Begins l (wraps f at_token p) v
unfolding run
begins-wraps {l = l} {f = f} {p = p} {v = v} c e =
    let b = e.gives in
    let o = at l p v in
    let ts = v.hand.trivia in
    let n = length (pending v.state.known) in
    let long : n ≡ length ts = ap (λ (x : Option Trivia). length (pending x)) c.known in
    let count : n + o.back ≡ length ts = let k = b.back in omega arith in
    let first = ap (λ k. take k o.nodes) count ∙ ap (take (length ts)) b.nodes ∙ front-of ts b.rest in
    let last = ap (λ k. drop k o.nodes) count ∙ ap (drop (length ts)) b.nodes ∙ back-of ts b.rest in
    record {
      gives = record {
        back = b.back;
        hints = b.hints;
        rest = shaped (f o.value) b.rest;
        nodes = ap (λ ns. ns ++ shaped (f o.value) (drop (n + o.back) o.nodes)) first ∙ ap (λ ns. ts ++ shaped (f o.value) ns) last;
        more = some-shaped (f o.value) b.rest b.more;
      };
    }
