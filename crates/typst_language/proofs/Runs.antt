-- How runs of the code compose.
use Rattle.typst_language.proofs.Cited.{Option, ◌≡◌, ℕ, suc, ◌+◌, ◌-◌, ◌<◌, ◌≤◌, ◌==◌, Bool, true, false, ◌&&◌, nat_lt, if◌then◌else◌, List, [], ◌∷◌, ◌++◌, length, map, take, drop, append_assoc, refl, ap, sym, ◌∙◌, subst, arith, rules, lt-ltb, is_error, Place, moved, Tree, text_of, error_of, CharClasses, hull_of, Hull, Mark, Newlines, Reading, Call, Answer, Point, Trivia, gap_of, state_of, Ask, Hand, as_at_hand, hand_at, column_at, column_look, Log, logged, with_hull, with_note, Making, Shape, after_node, after_shape, hinted, seen, Sound, Parser, Begin, hand, column, erred, takes, flushes, complains, marks, is_deepest, gives, does, next, pick, repeat, wraps, scoped, calls, Outcome, Meaning, Level, asked, before, bound, plain, less, followed, turns, repeated, inside, reshaped, entered, left, renewed, flushed_state, taken_node, hand_asks_of, run, bytes_left, token_hull, column_hull, View, Runs, Ran, at, Fits, Bare, Looked, Flushed, Rewrapped, Knows, end_of}
use Rattle.typst_language.proofs.Places.{moved-sum, take-both, drop-both, take-all, drop-all, less-none, length-less, no-end}
use Rattle.typst_language.proofs.HintedNodes.{standing-joined, length-hinted}
use Rattle.typst_language.proofs.Within.{turns-enough, within-run}
use Rattle.typst_language.proofs.Backs.{backs-run}
use Rattle.typst_language.proofs.Bytes.{some-bytes, none-bytes}
use Rattle.typst_language.proofs.Logs.{logged-append, logged-shift, logged-sunk, logged-some, hand-among, is-among}
use Rattle.typst_language.proofs.Trivia.{hand-known, gap-there}
use Rattle.typst_language.proofs.Knowing.{end-moved, knows-at}
pub use Rattle.typst_language.proofs.Leaves.{shape-known}

pub runs-plain : {A : Type 0} (n : ℕ) (a b : A) (v : View) → a ≡ b → Runs n (plain a v.state) b v v
runs-plain n a b v e = record { value = e; place = refl; state = refl; nodes = no-end v.nodes; log = refl }

pub runs-followed : {A B : Type 0} (n : ℕ) (o : Outcome B) (f : B → Place → Point → Outcome A) (b : B) (a : A) (old mid new : View)
    → Runs n o b old mid → Runs n (f b mid.place mid.state) a mid new → Runs n (followed o f old.place) a old new
runs-followed n o f b a old mid new h k = grind (arith, moved-sum, standing-joined, logged-append, logged-shift)

-- ---- what a parser does after another

pub ran-next : {A B : Type 0} {l : Level} {p : Parser B} {f : B → Parser A} {b : B} {a : A} {old mid new : View}
    → Ran l p b old mid → Ran l (f b) a mid new → Ran l (next p f) a old new
unfolding run
ran-next {l = d} {p = p} {f = f} {b = b} {a = a} {old = old} {mid = mid} {new = new} h k = search (rules, runs-followed)

pub ran-gives : {A : Type 0} {l : Level} {a : A} {v : View} → Ran l (gives a) a v v
unfolding run
ran-gives {l = l} {a = a} {v = v} = record { runs = runs-plain l.levels a a v refl }

pub ran-calls : {l : Level} {call : Call} {a : Answer call} {old new : View} → Runs (l.levels - 1) (l.deeper call old.place old.state) a old new → Ran l (calls call) a old new
unfolding run
ran-calls {l = l} {call = call} {old = old} h = grind (arith, logged-sunk)

pub ran-pick : {A : Type 0} {l : Level} {b : Bool} {p q : Parser A} {a : A} {old new : View} → b ≡ true → Ran l p a old new → Ran l (pick b p q) a old new
unfolding run
ran-pick {a = a} {old = old} {new = new} e d = record { runs = rw e d.runs }

pub ran-other : {A : Type 0} {l : Level} {b : Bool} {p q : Parser A} {a : A} {old new : View} → b ≡ false → Ran l q a old new → Ran l (pick b p q) a old new
unfolding run
ran-other {a = a} {old = old} {new = new} e d = record { runs = rw e d.runs }

-- ---- what only asks

pub ran-look : {l : Level} {v w : View} → Looked l v w → Ran l (does hand) (as_at_hand w.hand) v w
unfolding run
ran-look {l = l} {v = v} {w = w} h = grind (arith, no-end)

pub own-at : (k : CharClasses) (a b : Reading) (y z : Place) (u : Hull) → a ≡ b → y ≡ z → u ≡ token_hull k b.mode z → u ≡ token_hull k a.mode y
own-at k a b y z u e f h = h ∙ ap (λ p. token_hull k b.mode p) (sym f) ∙ ap (λ (r : Reading). token_hull k r.mode y) (sym e)

pub here-at : (a b : Reading) (m n : Newlines) (y z : Place) (u o p : Hull) → a ≡ b → m ≡ n → y ≡ z → o ≡ p → u ≡ column_hull b n z p → u ≡ column_hull a m y o
here-at a b m n y z u o p e f g i h = cc

pub hand-at : (k : CharClasses) (a b : Reading) (x y : Option Trivia) (w z : Place) → a ≡ b → x ≡ y → w ≡ z → hand_at k a x w ≡ hand_at k b y z
hand-at k a b x y w z e f g = ap (λ p. hand_at k a x p) g ∙ ap (λ q. hand_at k a q z) f ∙ ap (λ r. hand_at k r y z) e

here-is : (k : CharClasses) (held : Reading) (a h : Hand) (z : Place) (own here : Hull) → h ≡ a → own ≡ token_hull k held.mode (moved h.gap z) → here ≡ column_hull held h.newlines (moved h.gap z) own
    → here ≡ column_hull held a.newlines (moved a.gap z) (token_hull k held.mode (moved a.gap z))
here-is k held a h z own here e o j = cc

pub looked-fits : {l : Level} {v w : View} → gap_of v.state.known ≤ length v.place.ahead → Knows l.guess (end_of v.place) v.memo → Looked l v w → Fits l w
looked-fits {l = l} {v = v} {w = w} few knows h = grind (arith, hand-among, here-is, gap-there, hand-known, hand-at, own-at, here-at, is-among, knows-at)

-- the token at hand is asked for alone
pub asked-log : (l : Level) (v : View) (h : Log) → Fits l v → logged l.levels v.place h (hand_asks_of l v.place v.state) ≡ with_hull v.here h
asked-log l v h c = grind (arith, logged-some)

-- and what was looked at for it is known
pub asked-again : (l : Level) (v : View) → Fits l v → logged l.levels v.place v.log (hand_asks_of l v.place v.state) ≡ v.log
asked-again l v c = asked-log l v v.log c ∙ c.log

pub asked-then : (l : Level) (v : View) → Fits l v → (asks : List Ask) → logged l.levels v.place v.log (hand_asks_of l v.place v.state ++ asks) ≡ logged l.levels v.place v.log asks
asked-then l v c asks = logged-append l.levels v.place v.log (hand_asks_of l v.place v.state) asks ∙ ap (λ x. logged l.levels v.place x asks) (asked-again l v c)

pub asked-same : (l : Level) (v : View) → Fits l v → v.state ≡ asked v.hand v.state
asked-same l v c = ap (λ (x : Option Trivia). record v.state { known = x }) c.known

pub fits-looked : {l : Level} {v : View} → Fits l v → Looked l v v
fits-looked {l = l} {v = v} c = record { nodes = refl; place = refl; state = asked-same l v c; hand = c.hand; own = c.own; here = c.here; log = sym (asked-again l v c); memo = refl }

pub ran-hand : {l : Level} (v : View) → Fits l v → Ran l (does hand) (as_at_hand v.hand) v v
ran-hand v c = ran-look (fits-looked c)

-- the column of the token at hand was looked at
abbrev pub column_seen : View → View
column_seen v = let z = moved v.hand.gap v.place in record v { log = with_hull (hull_of (column_look z) z) v.log }

pub ran-column : {l : Level} (v : View) → Fits l v → Ran l (does column) (column_at (moved v.hand.gap v.place)) v (column_seen v)
unfolding run
ran-column {l = l} v c = grind (arith, asked-same, no-end, asked-then)

pub fits-more : {l : Level} {v : View} (u : Hull) → Fits l v → Fits l (record v { log = with_hull u v.log })
fits-more {v = v} u c = grind arith

pub ran-erred : {l : Level} (v : View) → Ran l (does erred) v.state.is_after_error v v
unfolding run
ran-erred {l = l} v = record { runs = runs-plain l.levels v.state.is_after_error v.state.is_after_error v refl }

pub ran-deepest : {l : Level} (v : View) → Ran l (does is_deepest) (l.levels == 0) v v
unfolding run
ran-deepest {l = l} v = let r = runs-plain l.levels (l.levels == 0) (l.levels == 0) v refl in record { runs = record { value = r.value; place = r.place; state = r.state; nodes = r.nodes; log = refl } }

-- this was noted
abbrev pub noted : ℕ → Mark → View → View
noted levels m v = record v { log = with_note (gap_of v.state.known) levels m (state_of v.state) v.place v.log }

pub ran-marks : {l : Level} (m : Mark) (v : View) → Ran l (does (marks m)) tt v (noted l.levels m v)
unfolding run
ran-marks {l = l} m v = grind (arith, no-end)

-- ---- what takes and gives

-- the token at hand was taken so
pub record Eaten (l : Level) (trims : Bool) (making : Making) (v w : View) : Type 0 where
  pub nodes : w.nodes ≡ less (if trims then v.state.empties else 0) v.nodes ++ (v.hand.trivia ++ taken_node l.classes making v.hand v.place ∷ [])
  pub place : w.place ≡ moved (v.hand.gap + v.hand.len) v.place
  pub state : w.state ≡ renewed (after_node (is_error (taken_node l.classes making v.hand v.place).head.kind) (text_of (taken_node l.classes making v.hand v.place)) v.state)
  pub log : w.log ≡ v.log
  pub memo : w.memo ≡ v.memo

pub ran-takes : {l : Level} {trims : Bool} {making : Making} {v w : View} → Eaten l trims making v w → Fits l v → Ran l (does (takes trims making)) tt v w
unfolding run
ran-takes {l = l} {trims = trims} {making = making} {v = v} {w = w} h c = grind (arith, asked-again)

pub eaten-bare : {l : Level} {trims : Bool} {making : Making} {v w : View} → Eaten l trims making v w → Fits l v → Bare l w
eaten-bare {v = v} h c = record { known = ap (λ (s : Point). s.known) h.state; knows = knows-at h.memo (ap end_of h.place ∙ end-moved (v.hand.gap + v.hand.len) v.place) c.knows }

pub ran-flushes : {l : Level} {v w : View} → Flushed v w → Fits l v → Ran l (does flushes) tt v w
unfolding run
ran-flushes {l = l} {v = v} {w = w} h c = grind (arith, asked-again, less-none)

pub flushed-held : (ts : List Tree) (h : Hand) (s : Point) → h.trivia ≡ ts → (flushed_state h s).held ≡ s.held
flushed-held ts h s e = grind arith

pub flushed-fits : {l : Level} {v w : View} → Flushed v w → Fits l v → Fits l w
unfolding hand_at
flushed-fits {l = l} {v = v} {w = w} h c = grind (arith, flushed-held, hand-at, own-at, here-at, knows-at, end-moved)

pub ran-complains : {l : Level} (m : List ℕ) (v : View)
    → Ran l (does (complains m)) tt v (record v { nodes = v.nodes ++ error_of m [] ∷ []; state = record v.state { empties = v.state.empties + 1; is_after_error = true } })
unfolding run
ran-complains m v = record { runs = record { value = refl; place = refl; state = refl; log = refl; nodes = ap (λ ns. ns ++ error_of m [] ∷ []) (sym (less-none v.nodes)) } }

-- ---- what is read in another way

pub ran-scoped : {A : Type 0} {l : Level} (f : Reading → Reading) {p : Parser A} {a : A} {old mid : View}
    → Ran l p a (record old { state = entered (f old.state.reading) old.state }) mid → Ran l (scoped f p) a old (record mid { state = left old.state.reading mid.state })
unfolding run
ran-scoped f {old = old} d = grind arith

-- ---- what goes into a shape

-- the nodes before a number and from it on, where no more were taken back than stood there
module _ {A : Type 0} (levels n : ℕ) (o : Outcome A) (a : A) (old mid : View) (few : o.back ≤ length old.nodes) (h : Runs levels o a old mid) where
  abbrev base : List Tree
  base = hinted o.hints (less o.back old.nodes)

  long : length base ≡ length old.nodes - o.back
  long = length-hinted o.hints (less o.back old.nodes) ∙ length-less o.back old.nodes

  rest : (length old.nodes + n) - length base ≡ n + o.back
  rest = omega (arith, long)

  short : length base ≤ length old.nodes + n
  short = omega (arith, long)

  front-is : take (length old.nodes + n) mid.nodes ≡ base ++ take (n + o.back) o.nodes
  front-is =
      let k = length old.nodes + n in
      ap (take k) h.nodes ∙ take-both k base o.nodes ∙ ap (λ ns. ns ++ take (k - length base) o.nodes) (take-all k base short) ∙ ap (λ j. base ++ take j o.nodes) rest

  pub inside-is : drop (length old.nodes + n) mid.nodes ≡ inside n o
  inside-is =
      let k = length old.nodes + n in
      ap (drop k) h.nodes ∙ drop-both k base o.nodes ∙ ap (λ ns. ns ++ drop (k - length base) o.nodes) (drop-all k base short) ∙ ap (λ j. drop j o.nodes) rest

  pub runs-reshaped : (shape : Shape) (new : View) → Rewrapped (length old.nodes + n) shape mid new → Runs levels (reshaped shape n o) a old new
  runs-reshaped shape new w = grind (arith, inside-is, front-is, append_assoc)

pub ran-wraps : {A : Type 0} {l : Level} {f : A → Shape} {begin : Begin} {p : Parser A} {a : A} {old mid new : View}
    → Sound l → old.state.empties ≤ length old.nodes
    → Ran l p a old mid → Rewrapped (length old.nodes + before begin old.state) (f a) mid new → Ran l (wraps f begin p) (a, map seen (drop (length old.nodes + before begin old.state) mid.nodes)) old new
unfolding run
ran-wraps {l = d} {f = f} {begin = begin} {p = p} {a = a} {old = old} {mid = mid} {new = new} sound few did w =
    let h = did.runs in
    let n = before begin old.state in
    let o = at d p old in
    let k = length old.nodes + n in
    let b = (backs-run d sound.backs sound.backs_block p old.place old.state).back in
    let back : o.back ≤ length old.nodes = omega arith in
    let r = runs-reshaped d.levels n o a old mid back h (f o.value) new (subst (λ v. Rewrapped k (f v) mid new) (sym h.value) w) in
    let value : ◌≡◌ {A = _ × _} (o.value, map seen (inside n o)) (a, map seen (drop k mid.nodes)) = rw (inside-is d.levels n o a old mid back h, h.value) refl in
    record { runs = record { value = value; place = r.place; state = r.state; nodes = r.nodes; log = r.log } }

-- ---- a loop: what is left to do, done, is the whole

-- who has fewer bytes left took some, and who has no fewer took none
pub taken-some : {A : Type 0} (n : ℕ) (o : Outcome A) (a : A) (v w : View) → Runs n o a v w → bytes_left w.place < bytes_left v.place → 0 < o.taken
taken-some n o a v w h less_bytes = some-bytes o.taken v.place (let e = ap bytes_left h.place in omega arith)

pub taken-none : {A : Type 0} (n : ℕ) (o : Outcome A) (a : A) (v w : View) → Runs n o a v w → o.taken ≤ length v.place.ahead → bytes_left v.place ≤ bytes_left w.place → o.taken ≡ 0
taken-none n o a v w h most stuck = none-bytes o.taken v.place most (let e = ap bytes_left h.place in omega arith)

pub bound-after : {A : Type 0} (n : ℕ) (o : Outcome A) (a : A) (v w : View) → Runs n o a v w → bound w.place w.state ≡ bound (moved o.taken v.place) o.state
bound-after n o a v w h = rw (h.place, h.state) refl

abbrev turn : {A : Type 0} (l : Level) (p : A → Parser (Bool × A)) → A → Meaning (Bool × A)
turn d p x = run d (p x)

pub ran-turn : {A : Type 0} {l : Level} {p : A → Parser (Bool × A)} {x y a : A} {v w new : View}
    → Sound l → Ran l (p x) (true, y) v w → bytes_left w.place < bytes_left v.place → Ran l (repeat p y) a w new → Ran l (repeat p x) a v new
unfolding run repeated
ran-turn {l = d} {p = p} {x = x} {y = y} {a = a} {v = v} {w = w} {new = new} sound did less_bytes rest =
    let h = did.runs in
    let m = turn d p in
    let o = at d (p x) v in
    let some = taken-some d.levels o (true, y) v w h less_bytes in
    let most = within-run d sound.within sound.within_block (p x) v.place v.state in
    let after = bound-after d.levels o (true, y) v w h in
    let less_left : bound w.place w.state < bound v.place v.state = omega (arith, most, after, some) in
    let goes_on : (o.value.0 && nat_lt 0 o.taken) ≡ true = rw (h.value, lt-ltb 0 o.taken some) refl in
    let same = turns-enough m (λ z. within-run d sound.within sound.within_block (p z)) (suc (bound w.place w.state)) (bound v.place v.state) y w.place w.state (omega arith) less_left in
    record { runs = rw goes_on (runs-followed d.levels o (λ u. turns m (bound v.place v.state) u.1) (true, y) a v w new h (subst (λ u. Runs d.levels u a w new) same rest.runs)) }

pub no_turn : (b : Bool) (n : ℕ) → (b ≡ true → n ≡ 0) → (b && nat_lt 0 n) ≡ false
no_turn true n h = rw (h refl) refl
no_turn false n h = refl

pub ran-last : {A : Type 0} {l : Level} {p : A → Parser (Bool × A)} {b : Bool} {x y : A} {v w : View}
    → Sound l → gap_of v.state.known ≤ length v.place.ahead → Ran l (p x) (b, y) v w → (b ≡ true → bytes_left v.place ≤ bytes_left w.place) → Ran l (repeat p x) y v w
unfolding run repeated
ran-last {l = d} {p = p} {b = b} {x = x} {y = y} {v = v} {w = w} sound few did stuck = grind (arith, within-run, no_turn, taken-none)

-- ---- what a shape leaves of the token at hand

pub shape-held : (shape : Shape) (ts : List Tree) (s : Point) → (after_shape shape ts s).held ≡ s.held
shape-held shape ts s = grind arith

pub rewrapped-fits : (l : Level) {from : ℕ} {shape : Shape} {mid new : View} → Rewrapped from shape mid new → Fits l mid → Fits l new
rewrapped-fits l {from = from} {shape = shape} {mid = mid} {new = new} w c = grind (arith, shape-held, shape-known, hand-at, own-at, here-at, knows-at)
