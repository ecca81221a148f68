-- How steps of the code compose, most of which begin and end with the right token at hand.
use Rattle.typst_language.proofs.Cited.{Option, None, ◌≡◌, ℕ, ◌+◌, ◌<◌, ◌≤◌, ◌==◌, Bool, true, false, List, [], ◌∷◌, ◌++◌, length, map, drop, ap, sym, ◌∙◌, subst, arith, ne_eqb, SyntaxKind, moved, Tree, error_of, Mark, Reading, Call, Answer, Point, Trivia, gap_of, pending, is_nil, state_of, with_note, as_at_hand, column_at, Making, Shape, becomes, seen, Sound, Parser, Begin, column, erred, takes, complains, marks, is_deepest, gives, does, next, pick, repeat, wraps, scoped, calls, peek, eat_making, flush_trivia, within, node, node_with_trivia, note, Level, before, entered, left, bytes_left, View, Ran, Goes, Does, Makes, Frame, Fills, Fits, Bare, Loose, Looked, Left, Flushed, Rewrapped, unasked, noted_here, Knows, end_of}
use Rattle.typst_language.proofs.Knowing.{knows-at}
use Rattle.typst_language.proofs.Runs.{ran-next, ran-gives, ran-calls, ran-pick, ran-other, ran-hand, ran-column, ran-erred, ran-deepest, ran-marks, Eaten, ran-takes, eaten-bare, ran-flushes, flushed-fits, ran-complains, ran-scoped, ran-wraps, rewrapped-fits, ran-turn, ran-last, looked-fits, ran-look, column_seen, fits-more, noted}

pub does-next : {A B : Type 0} {l : Level} {P Q R : View → Type 0} {p : Parser B} {f : B → Parser A} {b : B} {a : A} {old mid new : View}
    → Goes l P Q p b old mid → Goes l Q R (f b) a mid new → Goes l P R (next p f) a old new
does-next h k = record { ran = λ c. ran-next (h.ran c) (k.ran (h.ready c)); ready = λ c. k.ready (h.ready c) }

pub does-gives : {A : Type 0} {l : Level} {P : View → Type 0} {a : A} {v : View} → Goes l P P (gives a) a v v
does-gives = record { ran = λ c. ran-gives; ready = λ c. c }

pub does-calls : {l : Level} {call : Call} {a : Answer call} {old new : View} → Makes l call a old new → Does l (calls call) a old new
does-calls h = record { ran = λ c. ran-calls (h.ran c); ready = h.ready }

pub does-pick : {A : Type 0} {l : Level} {P Q : View → Type 0} {b : Bool} {p q : Parser A} {a : A} {old new : View} → b ≡ true → Goes l P Q p a old new → Goes l P Q (pick b p q) a old new
does-pick e d = record { ran = λ c. ran-pick e (d.ran c); ready = d.ready }

pub does-other : {A : Type 0} {l : Level} {P Q : View → Type 0} {b : Bool} {p q : Parser A} {a : A} {old new : View} → b ≡ false → Goes l P Q q a old new → Goes l P Q (pick b p q) a old new
does-other e d = record { ran = λ c. ran-other e (d.ran c); ready = d.ready }

pub nil-seen : (ts : List Tree) → is_nil (map seen ts) ≡ is_nil ts
nil-seen ts = grind arith

pub does-peek : {l : Level} (v : View) → Does l peek (as_at_hand v.hand) v v
does-peek v = record { ran = λ c. ran-hand v c; ready = λ c. c }

-- where nothing is known of a token, nothing has to be forgotten
bare-same : {l : Level} (v : View) → Bare l v → unasked v ≡ v
bare-same v b = ap (λ (x : Option Trivia). record v { state = record v.state { known = x } }) (sym b.known)

pub does-look : {l : Level} {v w : View} → Looked l (unasked v) w → Goes l (Bare l) (Fits l) peek (as_at_hand w.hand) v w
does-look {l = l} {v = v} {w = w} h = record { ran = λ b. ran-look (subst (λ (x : View). Looked l x w) (bare-same v b) h); ready = λ b. looked-fits (omega arith) b.knows h }

-- after any step what is remembered is so
pub does-loose : {A : Type 0} {l : Level} {P Q : View → Type 0} {p : Parser A} {a : A} {old new : View} → (Q new → Knows l.guess (end_of new.place) new.memo) → Goes l P Q p a old new → Goes l P (Loose l) p a old new
does-loose knows d = record { ran = d.ran; ready = λ c. record { knows = knows (d.ready c) } }

-- what is remembered, wherever the token at hand is the right one, none was asked for, or either
pub fits-knows : {l : Level} {v : View} → Fits l v → Knows l.guess (end_of v.place) v.memo
fits-knows c = c.knows

pub bare-knows : {l : Level} {v : View} → Bare l v → Knows l.guess (end_of v.place) v.memo
bare-knows c = c.knows

pub loose-knows : {l : Level} {v : View} → Loose l v → Knows l.guess (end_of v.place) v.memo
loose-knows c = c.knows

pub does-column : {l : Level} (v : View) → Does l (does column) (column_at (moved v.hand.gap v.place)) v (column_seen v)
does-column v = record { ran = λ c. ran-column v c; ready = λ c. fits-more _ c }

pub does-erred : {l : Level} {P : View → Type 0} (v : View) → Goes l P P (does erred) v.state.is_after_error v v
does-erred v = record { ran = λ c. ran-erred v; ready = λ c. c }

pub does-deepest : {l : Level} {P : View → Type 0} (v : View) → Goes l P P (does is_deepest) (l.levels == 0) v v
does-deepest v = record { ran = λ c. ran-deepest v; ready = λ c. c }

-- where no level is left, and where one is
pub does-too-deep : {A : Type 0} {l : Level} {f : Frame} {P Q : View → Type 0} {n : ℕ} {p q : Parser A} {a : A} {old new : View} → Fills l f → n ≡ f.levels → n ≡ 0 → Goes l P Q p a old new → Goes l P Q (next (does is_deepest) (λ b. pick b p q)) a old new
does-too-deep h is none did = does-next (does-deepest _) (does-pick (ap (λ k. k == 0) (h.levels ∙ sym is ∙ none)) did)

pub does-deeper : {A : Type 0} {l : Level} {f : Frame} {P Q : View → Type 0} {n : ℕ} {p q : Parser A} {a : A} {old new : View} → Fills l f → n ≡ f.levels → (n ≡ 0 → ⊥) → Goes l P Q q a old new → Goes l P Q (next (does is_deepest) (λ b. pick b p q)) a old new
does-deeper h is some did = does-next (does-deepest _) (does-other (ap (λ k. k == 0) (h.levels ∙ sym is) ∙ ne_eqb _ 0 some) did)

-- no more trivia are known than there are characters
pub known-few : {l : Level} {v : View} → Fits l v → gap_of v.state.known ≤ length v.place.ahead
known-few {v = v} c = let e = ap gap_of c.known in let h = c.there in omega arith

-- this was noted, and the token at hand was looked at again
pub does-note : {l : Level} (m : Mark) {v w : View} → (Fits l v → Looked l (noted l.levels m v) w) → Does l (note m) tt v w
unfolding note
does-note m {v = v} h = record {
  ran = λ c. ran-next (ran-hand v c) (ran-next (ran-marks m v) (ran-next (ran-look (h c)) ran-gives));
  ready = λ c. looked-fits (known-few c) c.knows (h c);
}

-- this was noted before anything was asked
pub does-marks : {l : Level} (m : Mark) (v w : View) → (Bare l v → w ≡ noted l.levels m v) → Goes l (Bare l) (Bare l) (does (marks m)) tt v w
does-marks {l = l} m v w e = grind (arith, ran-marks)

pub does-complains : {l : Level} (m : List ℕ) (v : View) → Does l (does (complains m)) tt v (record v { nodes = v.nodes ++ error_of m [] ∷ []; state = record v.state { empties = v.state.empties + 1; is_after_error = true } })
does-complains m v = record { ran = λ c. ran-complains m v; ready = λ c. record { known = c.known; hand = c.hand; own = c.own; here = c.here; there = c.there; log = c.log; knows = c.knows } }

pub does-takes : {l : Level} {trims : Bool} {making : Making} {v w : View} → Eaten l trims making v w → Goes l (Fits l) (Bare l) (does (takes trims making)) tt v w
does-takes h = record { ran = λ c. ran-takes h c; ready = λ c. eaten-bare h c }

pub does-eat : {l : Level} {trims : Bool} {making : Making} {v mid w : View} → Goes l (Fits l) (Bare l) (does (takes trims making)) tt v mid → Looked l (unasked mid) w → Does l (eat_making trims making) tt v w
unfolding eat_making
does-eat h k = does-next h (does-next (does-look k) does-gives)

pub does-flush : {l : Level} {v w : View} → (Fits l v → Flushed v w) → Does l flush_trivia tt v w
unfolding flush_trivia
does-flush {w = w} h = record { ran = λ c. ran-next (ran-flushes (h c) c) (ran-next (ran-hand w (flushed-fits (h c) c)) ran-gives); ready = λ c. flushed-fits (h c) c }

fits-entered : {l : Level} (f : Reading → Reading) {v : View} → Fits l v → Fits l (record v { state = entered (f v.state.reading) v.state })
fits-entered f c = record { known = c.known; hand = c.hand; own = c.own; here = c.here; there = c.there; log = c.log; knows = c.knows }

left-few : (outer : Reading) (s : Point) (n : ℕ) → gap_of s.known ≤ n → gap_of (left outer s).known ≤ n
left-few outer s n h = grind arith

-- the tokens to come are read in another way, and then as before
pub does-within : {A : Type 0} {l : Level} (f : Reading → Reading) {p : Parser A} {a : A} {old mid new : View}
    → Does l p a (record old { state = entered (f old.state.reading) old.state }) mid → Left l old.state.reading mid new → Does l (within f p) a old new
unfolding within
does-within f {old = old} {mid = mid} h e = record {
  ran = λ c. (let i = fits-entered f c in ran-next (ran-scoped f (h.ran i)) (ran-next (ran-look (e (h.ready i))) ran-gives));
  ready = λ c. (let m = h.ready (fits-entered f c) in looked-fits (left-few old.state.reading mid.state (length mid.place.ahead) (known-few m)) m.knows (e m));
}

-- a part is read in another way, and no token is asked for after it
pub does-scoped : {A : Type 0} {l : Level} {Q : View → Type 0} (f : Reading → Reading) {p : Parser A} {a : A} {outer : Reading} {old inner mid new : View}
    → (Q mid → Knows l.guess (end_of mid.place) mid.memo) → inner ≡ record old { state = entered (f old.state.reading) old.state } → outer ≡ old.state.reading
    → Goes l (Fits l) Q p a inner mid → new ≡ record mid { state = left outer mid.state } → Goes l (Fits l) (Loose l) (scoped f p) a old new
does-scoped {l = l} f {p = p} {a = a} {outer = outer} {old = old} {inner = inner} {mid = mid} {new = new} knows i o h e = grind (arith, fits-entered, ran-scoped, knows-at)

-- after another mode nothing is known of a token that wasn't asked for
left-bare : (outer : Reading) (s : Point) → s.known ≡ None → (left outer s).known ≡ None
left-bare outer s h = grind arith

-- the last token was taken in the inner way, and the one after it is asked for in the outer way
pub does-closed : {A : Type 0} {l : Level} (f : Reading → Reading) {p : Parser A} {a : A} {outer : Reading} {old inner mid last new : View}
    → inner ≡ record old { state = entered (f old.state.reading) old.state } → outer ≡ old.state.reading
    → Goes l (Fits l) (Bare l) p a inner mid → last ≡ record mid { state = left outer mid.state } → Looked l (unasked last) new → Does l (within f p) a old new
unfolding within
does-closed {l = l} f {outer = outer} {mid = mid} i o h e k =
    does-next
    (record {
      ran = (does-scoped f bare-knows i o h e).ran;
      ready = λ c. (let j = subst (λ (v : View). Fits l v) (sym i) (fits-entered f c) in record {
        known = ap (λ (v : View). v.state.known) e ∙ left-bare outer mid.state (h.ready j).known;
        knows = ((does-scoped f bare-knows i o h e).ready c).knows;
      });
    })
    (does-next (does-look k) does-gives)

pub does-wraps : {A : Type 0} {l : Level} {P Q : View → Type 0} {f : A → Shape} {begin : Begin} {from : ℕ} {p : Parser A} {a : A} {old mid new : View}
    → Sound l → old.state.empties ≤ length old.nodes → (P old → from ≡ length old.nodes + before begin old.state) → (Q mid → Q new)
    → Goes l P Q p a old mid → Rewrapped from (f a) mid new → Goes l P Q (wraps f begin p) (a, map seen (drop from mid.nodes)) old new
does-wraps {l = l} {P = P} {f = f} {begin = begin} {from = from} {p = p} {a = a} {old = old} {mid = mid} {new = new} sound few at keep did w = record {
  ran = λ c.
      (let e = at c in
      let k = length old.nodes + before begin old.state in
      subst (λ n. Ran l (wraps f begin p) (a, map seen (drop n mid.nodes)) old new) (sym e) (ran-wraps sound few (did.ran c) (subst (λ n. Rewrapped n (f a) mid new) e w)));
  ready = λ c. keep (did.ready c);
}

-- what is done goes into a shape, which begins at the token at hand
pub does-shape : {A : Type 0} {l : Level} {Q : View → Type 0} {from : ℕ} (shape : A → Shape) {p : Parser A} {a : A} {old mid new : View}
    → Sound l → old.state.empties ≤ length old.nodes → from ≡ length old.nodes + length old.hand.trivia → (Q mid → Q new)
    → Goes l (Fits l) Q p a old mid → Rewrapped from (shape a) mid new → Goes l (Fits l) Q (node shape p) a old new
unfolding node
does-shape shape {old = old} sound few from keep did w =
    does-next (does-peek old) (does-next (does-wraps sound few (λ c. from ∙ ap (λ (x : Option Trivia). length old.nodes + length (pending x)) (sym c.known)) keep did w) does-gives)

pub does-node : {A : Type 0} {l : Level} {from : ℕ} (shape : A → Shape) {p : Parser A} {a : A} {old mid new : View}
    → Sound l → old.state.empties ≤ length old.nodes → from ≡ length old.nodes + length old.hand.trivia
    → Does l p a old mid → Rewrapped from (shape a) mid new → Does l (node shape p) a old new
does-node {l = l} shape sound few from did w = does-shape shape sound few from (rewrapped-fits l w) did w

-- what is done becomes one node, which begins at the pending trivia
pub does-node_with_trivia : {l : Level} {P : View → Type 0} {from : ℕ} {kind : SyntaxKind} {p : Parser (Unit {0})} {old mid flushed new : View}
    → Sound l → old.state.empties ≤ length old.nodes → from ≡ length old.nodes + 0
    → Goes l P (Fits l) p tt old mid → Does l flush_trivia tt mid flushed → Rewrapped from (becomes kind) flushed new
    → Goes l P (Fits l) (node_with_trivia kind p) (map seen (drop from flushed.nodes)) old new
unfolding node_with_trivia
does-node_with_trivia {l = l} sound few from did flush w = does-next (does-wraps sound few (λ c. from) (rewrapped-fits l w) (does-next did flush) w) does-gives

-- ---- a loop: what is left to do, done, is the whole

pub record Turning {A : Type 0} (l : Level) (p : A → Parser (Bool × A)) (start : A) (old : View) (x : A) (v : View) : Type 0 where
  pub rest : (a : A) (new : View) → Does l (repeat p x) a v new → Does l (repeat p start) a old new

pub does-turn : {A : Type 0} {l : Level} {p : A → Parser (Bool × A)} {x y a : A} {v w new : View}
    → Sound l → Does l (p x) (true, y) v w → bytes_left w.place < bytes_left v.place → Does l (repeat p y) a w new → Does l (repeat p x) a v new
does-turn sound did less_left rest = record { ran = λ c. ran-turn sound (did.ran c) less_left (rest.ran (did.ready c)); ready = λ c. rest.ready (did.ready c) }

pub does-last : {A : Type 0} {l : Level} {p : A → Parser (Bool × A)} {b : Bool} {x y : A} {v w : View}
    → Sound l → Does l (p x) (b, y) v w → (b ≡ true → bytes_left v.place ≤ bytes_left w.place) → Does l (repeat p x) y v w
does-last sound did stuck = record { ran = λ c. ran-last sound (known-few c) (did.ran c) stuck; ready = did.ready }

pub turning-next : {A : Type 0} {l : Level} {p : A → Parser (Bool × A)} {start x y : A} {old v w : View}
    → Sound l → Turning l p start old x v → Does l (p x) (true, y) v w → bytes_left w.place < bytes_left v.place → Turning l p start old y w
turning-next sound t did less_left = record { rest = λ a new d. t.rest a new (does-turn sound did less_left d) }

-- the code noted something before anything was asked
pub first-noted : {l : Level} {levels : ℕ} {m : Mark} {v w : View} → w ≡ noted_here levels m v → l.levels ≡ levels → Goes l (Bare l) (Bare l) (does (marks m)) tt v w
first-noted {l = l} {m = m} {v = v} {w = w} e n = does-marks m v w (λ b. e ∙ ap (λ k. noted_here k m v) (sym n) ∙ ap (λ (x : Option Trivia). record v { log = with_note (gap_of x) l.levels m (state_of v.state) v.place v.log }) (sym b.known))

pub rewrapped-loose : (l : Level) {from : ℕ} {shape : Shape} {mid new : View} → Rewrapped from shape mid new → Loose l mid → Loose l new
rewrapped-loose l w c = record { knows = knows-at w.memo (ap end_of w.place) c.knows }
