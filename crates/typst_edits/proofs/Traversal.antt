-- A property of all that the language can say: it holds of the whole if it holds of each part.
use Rattle.typst_edits.proofs.Cited.{ℕ, zero, suc, Bool, ◌&&◌, if◌then◌else◌, nat_lt, Option, Some, None, Place, moved, Block, Reading, Call, Answer, Point, Shape, Op, Begin, Parser, flushes, gives, does, next, pick, repeat, wraps, grows, nests, scoped, either, calls, block, Outcome, Meaning, Level, plain, joined, answered, turns, as_last, bound, repeated, before, reshaped, wrapped, grown, is_more, growths, growing, nestings, nesting, deeper_by_one, given_up, bounded, entered, left_to, done, run, on_both, grew}

-- a property of an outcome, and of where it was read from
module _ (P : (A : Type 0) → Place → Point → Outcome A → Type 0) where
  -- WHAT A TRAVERSAL NEEDS: the property stays when parts become a whole.
  pub record Parts : Type 1 where
    pub nothing : (A : Type 0) (z : Place) (s : Point) (a : A) → P A z s (plain a s)
    pub both : (A B : Type 0) (z : Place) (s : Point) (o : Outcome B) (p : Outcome A) → P B z s o → P A (moved o.taken z) o.state p → P A z s (joined o p)
    pub answer : (A B : Type 0) (z : Place) (s : Point) (b : B) (o : Outcome A) → P A z s o → P B z s (answered b o)
    pub in_shape : (A : Type 0) (z : Place) (s : Point) (shape : Shape) (n : ℕ) (o : Outcome A) → P A z s o → P A z s (reshaped shape n o)
    pub in_scope : (A : Type 0) (z : Place) (s : Point) (r : Reading) (o : Outcome A) → P A z (entered r s) o → P A z s (left_to s.reading o)
    pub instead : (A : Type 0) (z : Place) (s : Point) (o p : Outcome A) → P A z s o → P A z s p → P A z s (given_up o p)

  abbrev pub All : {A : Type 0} → Meaning A → Type 0
  All {A} m = (z : Place) (s : Point) → P A z s (m z s)

  module _ (parts : Parts) where
    pub all-turns : {A : Type 0} (m : A → Meaning (Bool × A)) → ((x : A) → All (m x)) → (n : ℕ) (x : A) → All (turns m n x)
    all-turns {A} m h zero x z s = parts.nothing A z s x
    all-turns {A} m h (suc n) x z s =
        let o = m x z s in
        let p = turns m n o.value.1 (moved o.taken z) o.state in
        on_both (P A z s) (o.value.0 && nat_lt 0 o.taken) (joined o p) (as_last o)
        (parts.both A (Bool × A) z s o p (h x z s) (all-turns m h n o.value.1 (moved o.taken z) o.state)) (parts.answer (Bool × A) A z s o.value.1 o (h x z s))

    all-grown : {A : Type 0} (n : ℕ) (shape : Option Shape) (o : Outcome A) (z : Place) (s : Point) → P A z s o → P A z s (grown n shape o)
    all-grown n None o z s h = h
    all-grown {A} n (Some shape) o z s h = parts.in_shape A z s shape n o h

    pub all-growths : {A : Type 0} (m : A → Meaning (Option Shape × A)) → ((x : A) → All (m x)) → (n i : ℕ) (o : Outcome A) (z : Place) (s : Point) → P A z s o → P A z s (growths m n i o z)
    all-growths m h n zero o z s k = k
    all-growths {A} m h n (suc i) o z s k =
        let p = m o.value (moved o.taken z) o.state in
        let one = parts.both (Option Shape × A) A z s o p k (h o.value (moved o.taken z) o.state) in
        let all = all-grown n p.value.0 (answered p.value.1 (joined o p)) z s (parts.answer (Option Shape × A) A z s p.value.1 (joined o p) one) in
        on_both (P A z s) (is_more p.value.0 && nat_lt 0 p.taken) (growths m n i (grew n o p) z) (grew n o p) (all-growths m h n i (grew n o p) z s all) all

    pub all-nestings : {A : Type 0} (f : A → Shape) (begin : Begin) (m : A → Meaning (Bool × A)) → ((x : A) → All (m x)) → (n : ℕ) (x : A) → All (nestings f begin m n x)
    all-nestings {A} f begin m h zero x z s = parts.nothing A z s x
    all-nestings {A} f begin m h (suc n) x z s =
        let o = m x z s in
        let p = nestings f begin m n o.value.1 (moved o.taken z) o.state in
        let b = o.value.0 && nat_lt 0 o.taken in
        let q = if b then joined o p else as_last o in
        parts.in_shape A z s (f q.value) (before begin s) q
        (on_both (P A z s) b (joined o p) (as_last o)
        (parts.both A (Bool × A) z s o p (h x z s) (all-nestings f begin m h n o.value.1 (moved o.taken z) o.state)) (parts.answer (Bool × A) A z s o.value.1 o (h x z s)))

    -- by what holds of each step, of what is read one level deeper, and of each block
    module _ (l : Level) (step : (A : Type 0) (o : Op A) (z : Place) (s : Point) → P A z s (done l o z s)) (deep : (c : Call) (z : Place) (s : Point) → P (Answer c) z s (deeper_by_one (l.deeper c z s)))
        (held : (b : Block) (z : Place) (s : Point) → P (Unit {0}) z s (bounded b (l.blocks b) z s)) where
      pub all-run : {A : Type 0} (p : Parser A) → All (run l p)
      unfolding run repeated growing nesting
      all-run (gives a) z s = parts.nothing _ z s a
      all-run (does o) z s = step _ o z s
      all-run (next p f) z s =
          let o = run l p z s in
          parts.both _ _ z s o (run l (f o.value) (moved o.taken z) o.state) (all-run p z s) (all-run (f o.value) (moved o.taken z) o.state)
      all-run (pick b p q) z s = on_both (P _ z s) b (run l p z s) (run l q z s) (all-run p z s) (all-run q z s)
      all-run (repeat p x) z s = all-turns (λ y. run l (p y)) (λ y. all-run (p y)) (suc (bound z s)) x z s
      all-run (wraps f begin p) z s =
          let o = run l p z s in
          let n = before begin s in
          parts.answer _ _ z s (wrapped f n o).value (reshaped (f o.value) n o) (parts.in_shape _ z s (f o.value) n o (all-run p z s))
      all-run (grows begin p f) z s = all-growths (λ y. run l (f y)) (λ y. all-run (f y)) (before begin s) (suc (bound z s)) (run l p z s) z s (all-run p z s)
      all-run (nests f begin p x) z s = all-nestings f begin (λ y. run l (p y)) (λ y. all-run (p y)) (suc (bound z s)) x z s
      all-run (scoped f p) z s = let t = entered (f s.reading) s in parts.in_scope _ z s (f s.reading) (run l p z t) (all-run p z t)
      all-run (either p is_wrong q) z s =
          let o = run l p z s in
          let u = run l q z s in
          on_both (P _ z s) (is_wrong o.value) (given_up o u) o (parts.instead _ z s o u (all-run p z s) (all-run q z s)) (all-run p z s)
      all-run (calls c) z s = deep c z s
      all-run (block b) z s =
          let o = done l flushes z s in
          let p = bounded b (l.blocks b) (moved o.taken z) o.state in
          on_both (P _ z s) (l.has b) (joined o p) (plain tt s) (parts.both _ _ z s o p (step _ flushes z s) (held b (moved o.taken z) o.state)) (parts.nothing _ z s tt)
