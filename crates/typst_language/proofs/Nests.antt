-- What nests: a loop of which each turn becomes one node with all that comes after it.
use Rattle.typst_language.proofs.Cited.{◌≡◌, ℕ, suc, ◌+◌, ◌<◌, ◌≤◌, Bool, true, false, ◌&&◌, nat_lt, List, [], ◌∷◌, ◌++◌, length, refl, ap, sym, ◌∙◌, subst, arith, lt-ltb, moved, gap_of, Shape, Sound, Parser, Begin, at_token, nests, nest, Level, as_last, bound, before, joined, nestings, nesting, run, bytes_left, View, Runs, Ran, Does, Fits, Rewrapped, at, rewrapped, rewrapped_each}
use Rattle.typst_language.proofs.Within.{nestings-enough, within-run}
use Rattle.typst_language.proofs.Backs.{backs-run, backs-joined, tidy-nestings}
use Rattle.typst_language.proofs.Runs.{runs-followed, runs-reshaped, rewrapped-fits, taken-some, taken-none, bound-after, no_turn}
use Rattle.typst_language.proofs.Steps.{does-next, does-peek, known-few}
use Rattle.typst_language.proofs.Grows.{from-token}

pub rewrapped-is : (from : ℕ) (shape : Shape) (v : View) → Rewrapped from shape v (rewrapped from shape v)
rewrapped-is from shape v = record { place = refl; state = refl; nodes = refl; hand = refl; own = refl; here = refl; log = refl; memo = refl }

pub rewrapped-same : {from : ℕ} {shape : Shape} {v w : View} → Rewrapped from shape v w → w ≡ rewrapped from shape v
rewrapped-same r = λ i. record { nodes = r.nodes i; place = r.place i; state = r.state i; hand = r.hand i; own = r.own i; here = r.here i; log = r.log i; memo = r.memo i }

-- the last of the numbers comes first
pub each-last : (froms : List ℕ) (from : ℕ) (shape : Shape) (v : View) → rewrapped_each (froms ++ from ∷ []) shape v ≡ rewrapped_each froms shape (rewrapped from shape v)
each-last [] from shape v = refl
each-last (k ∷ froms) from shape v = ap (rewrapped k shape) (each-last froms from shape v)

-- the nodes from the last of the numbers on were wrapped
pub each-popped : (froms rest : List ℕ) (from : ℕ) (shape : Shape) (v w : View) → froms ≡ rest ++ from ∷ [] → Rewrapped from shape v w → rewrapped_each rest shape w ≡ rewrapped_each froms shape v
each-popped froms rest from shape v w e r = ap (rewrapped_each rest shape) (rewrapped-same r) ∙ sym (each-last rest from shape v) ∙ ap (λ (ns : List ℕ). rewrapped_each ns shape v) (sym e)

module _ {A : Type 0} (l : Level) (shape : A → Shape) (begin : Begin) (p : A → Parser (Bool × A)) (sound : Sound l) (x y : A) (v w : View) (few : v.state.empties ≤ length v.nodes) where
  abbrev k : ℕ
  k = length v.nodes + before begin v.state

  -- a turn, and all that comes after it
  ran-nested : (a : A) (new : View) → Ran l (p x) (true, y) v w → bytes_left w.place < bytes_left v.place → Ran l (nests shape begin p y) a w new → Ran l (nests shape begin p x) a v (rewrapped k (shape a) new)
  unfolding run nesting
  ran-nested a new did less_bytes rest =
      let h = did.runs in
      let m = λ (u : A). run l (p u) in
      let o = at l (p x) v in
      let n = bound v.place v.state in
      let q = nestings shape begin m n o.value.1 (moved o.taken v.place) o.state in
      let some = taken-some l.levels o (true, y) v w h less_bytes in
      let most = within-run l sound.within sound.within_block (p x) v.place v.state in
      let after = bound-after l.levels o (true, y) v w h in
      let less_left : bound w.place w.state < n = omega (arith, most, after, some) in
      let goes_on : (o.value.0 && nat_lt 0 o.taken) ≡ true = rw (h.value, lt-ltb 0 o.taken some) refl in
      let same = nestings-enough shape begin m (λ z. within-run l sound.within sound.within_block (p z)) (suc (bound w.place w.state)) n y w.place w.state (omega arith) less_left in
      let both = runs-followed l.levels o (λ u. nestings shape begin m n u.1) (true, y) a v w new h (subst (λ u. Runs l.levels u a w new) same rest.runs) in
      let tidy = backs-joined v.state o q (backs-run l sound.backs sound.backs_block (p x) v.place v.state) (tidy-nestings shape begin m (λ z. backs-run l sound.backs sound.backs_block (p z)) n o.value.1 (moved o.taken v.place) o.state) in
      let b = tidy.back in
      let back : (joined o q).back ≤ length v.nodes = omega (arith, b, few) in
      let r = runs-reshaped l.levels (before begin v.state) (joined o q) a v new back both (shape q.value) (rewrapped k (shape a) new) (subst (λ u. Rewrapped k (shape u) new (rewrapped k (shape a) new)) (sym both.value) (rewrapped-is k (shape a) new)) in
      record { runs = rw goes_on r }

  -- the last turn of a run
  ran-innermost : (b : Bool) → gap_of v.state.known ≤ length v.place.ahead → Ran l (p x) (b, y) v w → (b ≡ true → bytes_left v.place ≤ bytes_left w.place) → Ran l (nests shape begin p x) y v (rewrapped k (shape y) w)
  unfolding run nesting
  ran-innermost b known did stuck =
      let h = did.runs in
      let o = at l (p x) v in
      let most = within-run l sound.within sound.within_block (p x) v.place v.state in
      let there : o.taken ≤ length v.place.ahead = omega (arith, most, known) in
      let stops : (o.value.0 && nat_lt 0 o.taken) ≡ false = rw h.value (no_turn b o.taken (λ e. taken-none l.levels o (b, y) v w h there (stuck e))) in
      let last : Runs l.levels (as_last o) y v w = record { value = ap (λ u. u.1) h.value; place = h.place; state = h.state; nodes = h.nodes; log = h.log } in
      let t = (backs-run l sound.backs sound.backs_block (p x) v.place v.state).back in
      let back : (as_last o).back ≤ length v.nodes = omega (arith, t, few) in
      let r = runs-reshaped l.levels (before begin v.state) (as_last o) y v w back last (shape o.value.1) (rewrapped k (shape y) w) (subst (λ u. Rewrapped k (shape u) w (rewrapped k (shape y) w)) (sym last.value) (rewrapped-is k (shape y) w)) in
      record { runs = rw stops r }

-- ---- the loop of the code

-- the loop stands before a turn with this value, and the turns before it begin at these numbers
pub record Nests {A : Type 0} (l : Level) (shape : A → Shape) (p : A → Parser (Bool × A)) (start : A) (old : View) (froms : List ℕ) (x : A) (v : View) : Type 0 where
  pub rest : (a : A) (new : View) → Does l (nests shape at_token p x) a v new → Does l (nests shape at_token p start) a old (rewrapped_each froms (shape a) new)

wraps-here : {l : Level} {from : ℕ} {v : View} (shape : Shape) (new : View) → Fits l v → from ≡ length v.nodes + length v.hand.trivia → rewrapped (length v.nodes + before at_token v.state) shape new ≡ rewrapped from shape new
wraps-here shape new c e = ap (λ n. rewrapped n shape new) (sym (from-token c e))

-- a turn that says that more come, and took something
pub nests-next : {A : Type 0} {l : Level} {shape : A → Shape} {p : A → Parser (Bool × A)} {start x y : A} {froms : List ℕ} {from : ℕ} {old v w : View}
    → Sound l → Nests l shape p start old froms x v → v.state.empties ≤ length v.nodes → from ≡ length v.nodes + length v.hand.trivia → Does l (p x) (true, y) v w → bytes_left w.place < bytes_left v.place
    → Nests l shape p start old (froms ++ from ∷ []) y w
nests-next {l = l} {shape = shape} {p = p} {start = start} {x = x} {y = y} {froms = froms} {from = from} {old = old} {v = v} {w = w} sound n few e did less_bytes = record {
  rest = λ a new d.
      (let whole : Does l (nests shape at_token p x) a v (rewrapped from (shape a) new) = record {
        ran = λ c. subst (λ (u : View). Ran l (nests shape at_token p x) a v u) (wraps-here (shape a) new c e) (ran-nested l shape at_token p sound x y v w few a new (did.ran c) less_bytes (d.ran (did.ready c)));
        ready = λ c. rewrapped-fits l (rewrapped-is from (shape a) new) (d.ready (did.ready c));
      } in
      subst (λ (u : View). Does l (nests shape at_token p start) a old u) (sym (each-last froms from (shape a) new)) (n.rest a (rewrapped from (shape a) new) whole));
}

-- the last turn of the code
pub nests-last : {A : Type 0} {l : Level} {shape : A → Shape} {p : A → Parser (Bool × A)} {b : Bool} {start x y : A} {froms : List ℕ} {from : ℕ} {old v w : View}
    → Sound l → Nests l shape p start old froms x v → v.state.empties ≤ length v.nodes → from ≡ length v.nodes + length v.hand.trivia → Does l (p x) (b, y) v w → (b ≡ true → bytes_left v.place ≤ bytes_left w.place)
    → Does l (nest shape p start) y old (rewrapped_each (froms ++ from ∷ []) (shape y) w)
unfolding nest
nests-last {l = l} {shape = shape} {p = p} {b = b} {start = start} {x = x} {y = y} {froms = froms} {from = from} {old = old} {v = v} {w = w} sound n few e did stuck =
    let whole : Does l (nests shape at_token p x) y v (rewrapped from (shape y) w) = record {
      ran = λ c. subst (λ (u : View). Ran l (nests shape at_token p x) y v u) (wraps-here (shape y) w c e) (ran-innermost l shape at_token p sound x y v w few b (known-few c) (did.ran c) stuck);
      ready = λ c. rewrapped-fits l (rewrapped-is from (shape y) w) (did.ready c);
    } in
    does-next (does-peek old) (subst (λ (u : View). Does l (nests shape at_token p start) y old u) (sym (each-last froms from (shape y) w)) (n.rest y (rewrapped from (shape y) w) whole))
