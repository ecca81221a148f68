-- What grows: a loop of which each turn may make one node of all that was given since its beginning.
use Rattle.typst_language.proofs.Cited.{Option, Some, None, ◌≡◌, ℕ, suc, ◌+◌, ◌-◌, ◌<◌, ◌≤◌, true, false, ◌&&◌, nat_lt, length, refl, ap, sym, ◌∙◌, subst, arith, lt-ltb, Place, moved, Trivia, pending, Shape, Sound, Tidy, Parser, at_token, grows, grow, Outcome, Meaning, Level, answered, joined, bound, before, grown, growths, growing, is_more, run, bytes_left, View, Runs, Ran, Does, Fits, Rewrapped, at}
use Rattle.typst_language.proofs.Within.{grew, within-run}
use Rattle.typst_language.proofs.Backs.{backs-run, backs-joined, tidy-grew}
use Rattle.typst_language.proofs.Runs.{runs-followed, runs-reshaped, rewrapped-fits, shape-known, taken-some, taken-none, bound-after}
use Rattle.typst_language.proofs.Steps.{does-next, does-peek, known-few}

abbrev turn : {A : Type 0} → Level → (A → Parser (Option Shape × A)) → A → Meaning (Option Shape × A)
turn l f x = run l (f x)

-- what was given so far, and how many turns may still be made
pub record Going {A : Type 0} (l : Level) (p : Parser A) (f : A → Parser (Option Shape × A)) (old : View) (x : A) (v : View) : Type 0 where
  pub so_far : Outcome A
  pub turns : ℕ
  pub runs : Runs l.levels so_far x old v
  pub tidy : Tidy old.state so_far
  pub rest : at l (grows at_token p f) old ≡ growths (λ y. run l (f y)) (before at_token old.state) turns so_far old.place
  pub enough : bound v.place v.state < turns
  pub fits : Fits l v

-- the loop stands before a turn with this value
pub record Grows {A : Type 0} (l : Level) (p : Parser A) (f : A → Parser (Option Shape × A)) (from : ℕ) (old : View) (x : A) (v : View) : Type 0 where
  pub few : old.state.empties ≤ length old.nodes
  pub from_here : from ≡ length old.nodes + length old.hand.trivia
  pub going : Fits l old → Going l p f old x v

begins : {A : Type 0} {l : Level} {p : Parser A} {f : A → Parser (Option Shape × A)} {x : A} {old v : View} → Sound l → Fits l old → Does l p x old v → Going l p f old x v
unfolding run growing
begins {l = l} {p = p} {x = x} {old = old} {v = v} sound c did =
    let most = within-run l sound.within sound.within_block p old.place old.state in
    let after = bound-after l.levels (at l p old) x old v (did.ran c).runs in
    record {
      so_far = at l p old;
      turns = suc (bound old.place old.state);
      runs = (did.ran c).runs;
      tidy = backs-run l sound.backs sound.backs_block p old.place old.state;
      rest = refl;
      enough = omega (arith, most, after);
      fits = did.ready c;
    }

-- ---- a turn after what was given so far

module _ {A : Type 0} (l : Level) (f : A → Parser (Option Shape × A)) (n : ℕ) (old : View) (x : A) (v : View) (o : Outcome A) (h : Runs l.levels o x old v) where
  abbrev one : Outcome (Option Shape × A)
  one = run l (f o.value) (moved o.taken old.place) o.state

  one-is : at l (f x) v ≡ one
  one-is = rw (h.place, h.state, sym h.value) refl

  one-runs : (s : Option Shape) (y : A) (mid : View) → Runs l.levels (at l (f x) v) (s, y) v mid → Runs l.levels one (s, y) v mid
  one-runs s y mid did = subst (λ (u : Outcome (Option Shape × A)). Runs l.levels u (s, y) v mid) one-is did

  both-runs : (s : Option Shape) (y : A) (mid : View) → Runs l.levels (at l (f x) v) (s, y) v mid → Runs l.levels (answered y (joined o one)) y old mid
  both-runs s y mid did = grind (arith, runs-followed l.levels o (λ u. run l (f u)) x (s, y) old v mid h did)

  -- nothing went into a shape
  none-runs : (y : A) (mid : View) → Runs l.levels (at l (f x) v) (None, y) v mid → Runs l.levels (grew n o one) y old mid
  none-runs y mid did =
      subst (λ (q : Option Shape × A). Runs l.levels (grown n q.0 (answered q.1 (joined o one))) y old mid) (sym (one-runs None y mid did).value) (both-runs None y mid did)

  -- all went into a shape
  some-runs : (shape : Shape) (y : A) (mid w : View) → (joined o one).back ≤ length old.nodes → Runs l.levels (at l (f x) v) (Some shape, y) v mid → Rewrapped (length old.nodes + n) shape mid w
      → Runs l.levels (grew n o one) y old w
  some-runs shape y mid w few did r =
      subst (λ (q : Option Shape × A). Runs l.levels (grown n q.0 (answered q.1 (joined o one))) y old w) (sym (one-runs (Some shape) y mid did).value)
      (runs-reshaped l.levels n (answered y (joined o one)) y old mid few (both-runs (Some shape) y mid did) shape w r)

  -- the loop goes on after it, or ends with it
  goes-on : (k : ℕ) → (is_more one.value.0 && nat_lt 0 one.taken) ≡ true → growths (λ y. run l (f y)) n (suc k) o old.place ≡ growths (λ y. run l (f y)) n k (grew n o one) old.place
  goes-on k e = rw e refl

  ends : (k : ℕ) → (is_more one.value.0 && nat_lt 0 one.taken) ≡ false → growths (λ y. run l (f y)) n (suc k) o old.place ≡ grew n o one
  ends k e = rw e refl

is-suc : (m t : ℕ) → m < t → t ≡ suc (t - 1)
is-suc m t h = omega arith

-- where a node begins at the token
pub from-token : {l : Level} {from : ℕ} {old : View} → Fits l old → from ≡ length old.nodes + length old.hand.trivia → from ≡ length old.nodes + before at_token old.state
from-token {old = old} c e = e ∙ ap (λ (x : Option Trivia). length old.nodes + length (pending x)) (sym c.known)

-- no fewer characters and no more trivia are left after a shape
bound-wrapped : {from : ℕ} {shape : Shape} {mid w : View} → Rewrapped from shape mid w → bound w.place w.state ≡ bound mid.place mid.state
bound-wrapped {from = from} {shape = shape} {mid = mid} {w = w} r = grind (arith, shape-known)

module _ {A : Type 0} (l : Level) (p : Parser A) (f : A → Parser (Option Shape × A)) (old : View) (x : A) (v : View) (sound : Sound l) (few : old.state.empties ≤ length old.nodes) (s : Going l p f old x v) where
  abbrev n : ℕ
  n = before at_token old.state

  abbrev o : Outcome A
  o = s.so_far

  abbrev q : Outcome (Option Shape × A)
  q = one l f n old x v o s.runs

  back : (joined o q).back ≤ length old.nodes
  back = let b = (backs-joined old.state o q s.tidy (backs-run l sound.backs sound.backs_block (f o.value) (moved o.taken old.place) o.state)).back in omega (arith, b, few)

  unfolds : s.turns ≡ suc (s.turns - 1)
  unfolds = is-suc (bound v.place v.state) s.turns s.enough

  module _ (y : A) (mid : View) where
    on : (shape : Shape) (w : View) → Does l (f x) (Some shape, y) v mid → Rewrapped (length old.nodes + n) shape mid w → bytes_left w.place < bytes_left v.place → Going l p f old y w
    on shape w did r less_bytes =
        let ran = (did.ran s.fits).runs in
        let turned = one-runs l f n old x v o s.runs (Some shape) y mid ran in
        let some : 0 < q.taken = taken-some l.levels q (Some shape, y) v mid turned (let e = ap bytes_left r.place in omega arith) in
        let more : (is_more q.value.0 && nat_lt 0 q.taken) ≡ true = ap (λ (u : Option Shape × A). is_more u.0 && nat_lt 0 q.taken) turned.value ∙ lt-ltb 0 q.taken some in
        let most = within-run l sound.within sound.within_block (f o.value) (moved o.taken old.place) o.state in
        let here = bound-after l.levels o x old v s.runs in
        let after = bound-after l.levels q (Some shape, y) v mid turned ∙ ap (λ (z : Place). bound (moved q.taken z) q.state) s.runs.place in
        let wrapped = bound-wrapped r in
        let enough = s.enough in
        record {
          so_far = grew n o q;
          turns = s.turns - 1;
          runs = some-runs l f n old x v o s.runs shape y mid w back ran r;
          tidy = tidy-grew old.state n o q s.tidy (backs-run l sound.backs sound.backs_block (f o.value) (moved o.taken old.place) o.state);
          rest = s.rest ∙ ap (λ t. growths (λ u. run l (f u)) n t o old.place) unfolds ∙ goes-on l f n old x v o s.runs (s.turns - 1) more;
          enough = omega (arith, some, most, here, after, wrapped, enough);
          fits = rewrapped-fits l r (did.ready s.fits);
        }

    last : (w : View) → (is_more q.value.0 && nat_lt 0 q.taken) ≡ false → Runs l.levels (grew n o q) y old w → Ran l (grows at_token p f) y old w
    last w off runs = grind (arith, unfolds)

    stuck : (shape : Shape) (w : View) → Does l (f x) (Some shape, y) v mid → Rewrapped (length old.nodes + n) shape mid w → bytes_left v.place ≤ bytes_left w.place → Ran l (grows at_token p f) y old w
    stuck shape w did r none =
        let ran = (did.ran s.fits).runs in
        let turned = one-runs l f n old x v o s.runs (Some shape) y mid ran in
        let most = within-run l sound.within sound.within_block (f o.value) (moved o.taken old.place) o.state in
        let here = bound-after l.levels o x old v s.runs in
        let known = known-few s.fits in
        let zero_taken : q.taken ≡ 0 = taken-none l.levels q (Some shape, y) v mid turned (omega (arith, most, here, known)) (let e = ap bytes_left r.place in omega arith) in
        last w (ap (λ (u : Option Shape × A). is_more u.0 && nat_lt 0 q.taken) turned.value ∙ ap (nat_lt 0) zero_taken) (some-runs l f n old x v o s.runs shape y mid w back ran r)

    none_more : Does l (f x) (None, y) v mid → Ran l (grows at_token p f) y old mid
    none_more did =
        let ran = (did.ran s.fits).runs in
        let turned = one-runs l f n old x v o s.runs None y mid ran in
        last mid (ap (λ (u : Option Shape × A). is_more u.0 && nat_lt 0 q.taken) turned.value) (none-runs l f n old x v o s.runs y mid ran)

-- ---- the loop of the code

pub grows-init : {A : Type 0} {l : Level} {p : Parser A} {f : A → Parser (Option Shape × A)} {from : ℕ} {x : A} {old v : View}
    → Sound l → old.state.empties ≤ length old.nodes → from ≡ length old.nodes + length old.hand.trivia → Does l p x old v → Grows l p f from old x v
grows-init sound few from did = record { few = few; from_here = from; going = λ c. begins sound c did }

wrapped-here : {l : Level} {from : ℕ} {shape : Shape} {old mid w : View} → Fits l old → from ≡ length old.nodes + length old.hand.trivia → Rewrapped from shape mid w → Rewrapped (length old.nodes + before at_token old.state) shape mid w
wrapped-here {shape = shape} {mid = mid} {w = w} c e r = subst (λ k. Rewrapped k shape mid w) (from-token c e) r

-- a turn says a shape, and took something
pub grows-next : {A : Type 0} {l : Level} {p : Parser A} {f : A → Parser (Option Shape × A)} {from : ℕ} {shape : Shape} {x y : A} {old v mid w : View}
    → Sound l → Grows l p f from old x v → Does l (f x) (Some shape, y) v mid → Rewrapped from shape mid w → bytes_left w.place < bytes_left v.place → Grows l p f from old y w
grows-next {l = l} {p = p} {f = f} {shape = shape} {x = x} {y = y} {old = old} {v = v} {mid = mid} {w = w} sound g did r less_bytes =
    record { few = g.few; from_here = g.from_here; going = λ c. on l p f old x v sound g.few (g.going c) y mid shape w did (wrapped-here c g.from_here r) less_bytes }

-- a turn says a shape, and took nothing: it was the last
pub grows-stuck : {A : Type 0} {l : Level} {p : Parser A} {f : A → Parser (Option Shape × A)} {from : ℕ} {shape : Shape} {x y : A} {old v mid w : View}
    → Sound l → Grows l p f from old x v → Does l (f x) (Some shape, y) v mid → Rewrapped from shape mid w → bytes_left v.place ≤ bytes_left w.place → Does l (grow p f) y old w
unfolding grow
grows-stuck {l = l} {p = p} {f = f} {shape = shape} {x = x} {y = y} {old = old} {v = v} {mid = mid} {w = w} sound g did r none =
    does-next (does-peek old)
    (record {
      ran = λ c. stuck l p f old x v sound g.few (g.going c) y mid shape w did (wrapped-here c g.from_here r) none;
      ready = λ c. rewrapped-fits l r (did.ready (g.going c).fits);
    })

-- a turn says no shape: it was the last
pub grows-last : {A : Type 0} {l : Level} {p : Parser A} {f : A → Parser (Option Shape × A)} {from : ℕ} {x y : A} {old v w : View}
    → Sound l → Grows l p f from old x v → Does l (f x) (None, y) v w → Does l (grow p f) y old w
unfolding grow
grows-last {l = l} {p = p} {f = f} {x = x} {y = y} {old = old} {v = v} {w = w} sound g did =
    does-next (does-peek old) (record { ran = λ c. none_more l p f old x v sound g.few (g.going c) y w did; ready = λ c. did.ready (g.going c).fits })
