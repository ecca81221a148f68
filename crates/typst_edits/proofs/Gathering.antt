-- A property of what is read and of its blocks, those that count and those of second readings: it holds of the whole if it holds of each part.
use Rattle.typst_edits.proofs.Cited.{◌≡◌, ℕ, zero, suc, ◌-◌, Bool, true, false, ◌&&◌, if◌then◌else◌, nat_lt, List, [], ◌++◌, map, Option, refl, subst, arith, flat_map, SyntaxKind, CharClasses, Place, moved, Block, Reading, Call, Answer, Point, forgot, Shape, Op, Begin, Parser, flushes, gives, does, next, pick, repeat, wraps, grows, nests, scoped, either, calls, block, Rules, meaning_of, level_of, Outcome, Meaning, Level, plain, joined, answered, followed, turns, as_last, bound, repeated, before, reshaped, wrapped, grown, grew, is_more, growths, growing, nestings, nesting, bounded, given_up, entered, left_to, deeper_by_one, done, run, shape_by, op_by, PlainBy, Spots, joined_spots, goes, last_spot, turns_spots, repeated_spots, reshaped_spot, wrapped_spot, grown_spot, growths_spots, growing_spots, nestings_spots, nesting_spots, scoped_spot, bounded_spots, spots, call_spots, block_spots, level_spots, Spot, after_spot, sunk_spot, closed_spot, seconds, call_seconds, block_seconds, level_seconds, Seen, if_by, gives-run}
use Rattle.typst_language.specs.Calls.{no_answer}

-- by what is known where a reading begins, and of what it reads; if T, of parsers that make nodes of these kinds alone
module _ (At : Place → Point → Type 0) (Gone : (A : Type 0) → Place → Point → Outcome A → Type 0) (R : (A : Type 0) → ℕ → Place → Point → Outcome A → List (Spot A) → List (Spot A) → Type 0) (T : Type 0) (allows : SyntaxKind → Bool) where
  -- WHAT THE TRAVERSAL NEEDS: these stay when parts become a whole.
  pub record Parts : Type 1 where
    pub at_entered : (z : Place) (s : Point) (r : Reading) → At z s → At z (entered r s)
    pub at_end : (A : Type 0) (z : Place) (s : Point) (o : Outcome A) → Gone A z s o → At (moved o.taken z) o.state
    pub gone_grew : (A : Type 0) (z : Place) (s : Point) (i : ℕ) (o : Outcome A) (p : Outcome (Option Shape × A)) → Gone A z s o → Gone (Option Shape × A) (moved o.taken z) o.state p → Gone A z s (grew i o p)
    pub nothing : (A : Type 0) (n : ℕ) (z : Place) (s : Point) (a : A) (m : Bool) → At z s → R A n z s (record (plain a s) { met = m }) [] []
    pub both : (A B : Type 0) (n : ℕ) (z : Place) (s : Point) (o : Outcome B) (p : Outcome A) (cs ds : List (Spot B)) (es fs : List (Spot A)) → Gone B z s o → R B n z s o cs ds → R A n (moved o.taken z) o.state p es fs
        → R A n z s (joined o p) (joined_spots o cs p es) (joined_spots o ds p fs)
    pub last_turn : (A B : Type 0) (n : ℕ) (z : Place) (s : Point) (o : Outcome (B × A)) (cs ds : List (Spot (B × A))) → R (B × A) n z s o cs ds → R A n z s (answered o.value.1 o) (map last_spot cs) (map last_spot ds)
    pub in_wrap : (A : Type 0) (n : ℕ) (z : Place) (s : Point) (f : A → Shape) (i : ℕ) (o : Outcome A) (cs ds : List (Spot A)) → (T → shape_by allows (f o.value) ≡ true) → R A n z s o cs ds
        → R (A × List Seen) n z s (wrapped f i o) (flat_map (wrapped_spot f i) cs) (flat_map (wrapped_spot f i) ds)
    pub in_growth : (A : Type 0) (n : ℕ) (z : Place) (s : Point) (i : ℕ) (shape : Option Shape) (o : Outcome (Option Shape × A)) (cs ds : List (Spot (Option Shape × A))) → (T → if_by allows shape ≡ true) → R (Option Shape × A) n z s o cs ds
        → R A n z s (grown i shape (answered o.value.1 o)) (flat_map (λ c. grown_spot i shape (last_spot c)) cs) (flat_map (λ c. grown_spot i shape (last_spot c)) ds)
    pub in_nest : (A : Type 0) (n : ℕ) (z : Place) (s : Point) (f : A → Shape) (i : ℕ) (o : Outcome A) (cs ds : List (Spot A)) → (T → shape_by allows (f o.value) ≡ true) → R A n z s o cs ds
        → R A n z s (reshaped (f o.value) i o) (flat_map (λ c. reshaped_spot (f c.value) i c) cs) (flat_map (λ c. reshaped_spot (f c.value) i c) ds)
    pub in_scope : (A : Type 0) (n : ℕ) (z : Place) (s : Point) (r : Reading) (o : Outcome A) (cs ds : List (Spot A)) → R A n z (entered r s) o cs ds → R A n z s (left_to s.reading o) (map (scoped_spot s.reading) cs) (map (scoped_spot s.reading) ds)
    pub instead : (A : Type 0) (n : ℕ) (z : Place) (s : Point) (o p : Outcome A) (cs ds : List (Spot A)) → R A n z s p cs ds → R A n z s (given_up o p) [] (cs ++ ds)
    pub deeper : (A : Type 0) (n : ℕ) (z : Place) (s : Point) (o : Outcome A) (cs ds : List (Spot A)) → R A (n - 1) z s o cs ds → R A n z s (deeper_by_one o) (map sunk_spot cs) (map sunk_spot ds)

  abbrev pub AllHold : {A : Type 0} → ℕ → Meaning A → Spots A → Spots A → Type 0
  AllHold {A} n m sp se = (z : Place) (s : Point) → At z s → R A n z s (m z s) (sp z s) (se z s)

  -- ---- parts

  holds-if : (A : Type 0) (n : ℕ) (z : Place) (s : Point) (b : Bool) (x y : Outcome A) (cs es ds fs : List (Spot A)) → (b ≡ true → R A n z s x cs ds) → (b ≡ false → R A n z s y es fs) → R A n z s (if b then x else y) (if b then cs else es) (if b then ds else fs)
  holds-if A n z s true x y cs es ds fs h k = h refl
  holds-if A n z s false x y cs es ds fs h k = k refl

  module _ (w : Parts) (n : ℕ) where
    module _ {A : Type 0} (m : A → Meaning (Bool × A)) (sp se : A → Spots (Bool × A)) (reads : (x : A) (z : Place) (s : Point) → At z s → R (Bool × A) n z s (m x z s) (sp x z s) (se x z s) → Gone (Bool × A) z s (m x z s))
        (h : (x : A) → AllHold n (m x) (sp x) (se x)) where
      all-turns : (i : ℕ) (x : A) → AllHold n (turns m i x) (turns_spots m sp i x) (turns_spots m se i x)
      all-turns zero x z s a = w.nothing _ n z s x false a
      all-turns (suc i) x z s a =
          let o = m x z s in
          let v = moved o.taken z in
          let first = h x z s a in
          let gone = reads x z s a first in
          holds-if _ n z s (goes o) (followed o (λ u. turns m i u.1) z) (as_last o) _ _ _ _
          (λ _. w.both _ _ n z s o (turns m i o.value.1 v o.state) (sp x z s) (se x z s) (turns_spots m sp i o.value.1 v o.state) (turns_spots m se i o.value.1 v o.state) gone first (all-turns i o.value.1 v o.state (w.at_end _ z s o gone)))
          (λ _. w.last_turn _ _ n z s o (sp x z s) (se x z s) first)

      all-nestings : (f : A → Shape) → ((a : A) → T → shape_by allows (f a) ≡ true) → (begin : Begin) (i : ℕ) (x : A) → AllHold n (nestings f begin m i x) (nestings_spots f begin m sp i x) (nestings_spots f begin m se i x)
      all-nestings f e begin zero x z s a = w.nothing _ n z s x false a
      all-nestings f e begin (suc i) x z s a =
          let o = m x z s in
          let v = moved o.taken z in
          let first = h x z s a in
          let gone = reads x z s a first in
          let q = if goes o then followed o (λ u. nestings f begin m i u.1) z else as_last o in
          w.in_nest _ n z s f (before begin s) q _ _ (e q.value)
          (holds-if _ n z s (goes o) (followed o (λ u. nestings f begin m i u.1) z) (as_last o) _ _ _ _
          (λ _. w.both _ _ n z s o (nestings f begin m i o.value.1 v o.state) (sp x z s) (se x z s) (nestings_spots f begin m sp i o.value.1 v o.state) (nestings_spots f begin m se i o.value.1 v o.state) gone first
          (all-nestings f e begin i o.value.1 v o.state (w.at_end _ z s o gone)))
          (λ _. w.last_turn _ _ n z s o (sp x z s) (se x z s) first))

    module _ {A : Type 0} (m : A → Meaning (Option Shape × A)) (sp se : A → Spots (Option Shape × A))
        (reads : (x : A) (z : Place) (s : Point) → At z s → R (Option Shape × A) n z s (m x z s) (sp x z s) (se x z s) → Gone (Option Shape × A) z s (m x z s)) (h : (x : A) → AllHold n (m x) (sp x) (se x))
        (e : (x : A) (z : Place) (s : Point) → T → if_by allows (m x z s).value.0 ≡ true) (i : ℕ) where
      all-growths : (j : ℕ) (o : Outcome A) (cs ds : List (Spot A)) (z : Place) (s : Point) → Gone A z s o → R A n z s o cs ds → R A n z s (growths m i j o z) (growths_spots m sp i j o cs z) (growths_spots m se i j o ds z)
      all-growths zero o cs ds z s g k = k
      all-growths (suc j) o cs ds z s g k =
          let v = moved o.taken z in
          let a = w.at_end _ z s o g in
          let p = m o.value v o.state in
          let more = h o.value v o.state a in
          let gone = w.gone_grew _ z s i o p g (reads o.value v o.state a more) in
          let es = sp o.value v o.state in
          let fs = se o.value v o.state in
          let all = w.in_growth _ n z s i p.value.0 (joined o p) (joined_spots o cs p es) (joined_spots o ds p fs) (e o.value v o.state) (w.both _ _ n z s o p cs ds es fs g k more) in
          holds-if _ n z s (is_more p.value.0 && nat_lt 0 p.taken) (growths m i j (grew i o p) z) (grew i o p) _ _ _ _ (λ _. all-growths j (grew i o p) _ _ z s gone all) (λ _. all)

  -- ---- whatever the language can say

  -- What a level gives to the traversal: what is known of all that it reads, each step, and each block, after the trivia at hand.
  pub record Given (l : Level) (deep deep_seconds : (c : Call) → Spots (Answer c)) (in_block seconds_inside : Block → Spots (Unit {0})) : Type 1 where
    pub reads : (A : Type 0) (p : Parser A) (z : Place) (s : Point) → At z s → R A l.levels z s (run l p z s) (spots l deep in_block p z s) (seconds l deep in_block deep_seconds seconds_inside p z s) → Gone A z s (run l p z s)
    pub step : (A : Type 0) (o : Op A) → (T → op_by allows o ≡ true) → (z : Place) (s : Point) → At z s → R A l.levels z s (done l o z s) [] []
    pub held : (b : Block) → l.has b ≡ true → (z : Place) (s : Point) → At z s → (let o = done l flushes z s in let v = moved o.taken z in
        R (Unit {0}) l.levels z s (followed o (λ _. bounded b (l.blocks b)) z) (map (after_spot o) (bounded_spots b (l.blocks b) (in_block b) v o.state)) (map (after_spot o) (map (closed_spot b o.state) (seconds_inside b v (forgot o.state)))))

  module _ (w : Parts) (l : Level) (deep deep_seconds : (c : Call) → Spots (Answer c)) (in_block seconds_inside : Block → Spots (Unit {0})) (given : Given l deep deep_seconds in_block seconds_inside)
      (called : (c : Call) → AllHold (l.levels - 1) (l.deeper c) (deep c) (deep_seconds c)) where
    abbrev firsts : {A : Type 0} → Parser A → Spots A
    firsts p = spots l deep in_block p

    abbrev others : {A : Type 0} → Parser A → Spots A
    others p = seconds l deep in_block deep_seconds seconds_inside p

    pub all-run : {A : Type 0} (p : Parser A) → (T → PlainBy allows p) → AllHold l.levels (run l p) (firsts p) (others p)
    unfolding run spots seconds repeated growing nesting repeated_spots growing_spots nesting_spots
    all-run (gives a) h z s k = w.nothing _ l.levels z s a false k
    all-run (does o) h z s k = given.step _ o h z s k
    all-run (next p f) h z s k =
        let o = run l p z s in
        let v = moved o.taken z in
        let first = all-run p (λ t. (h t).0) z s k in
        let gone = given.reads _ p z s k first in
        w.both _ _ l.levels z s o (run l (f o.value) v o.state) (firsts p z s) (others p z s) (firsts (f o.value) v o.state) (others (f o.value) v o.state) gone first (all-run (f o.value) (λ t. (h t).1 o.value) v o.state (w.at_end _ z s o gone))
    all-run (pick true p q) h z s k = all-run p (λ t. (h t).0) z s k
    all-run (pick false p q) h z s k = all-run q (λ t. (h t).1) z s k
    all-run (repeat p x) h z s k = all-turns w l.levels (λ y. run l (p y)) (λ y. firsts (p y)) (λ y. others (p y)) (λ y. given.reads _ (p y)) (λ y. all-run (p y) (λ t. h t y)) (suc (bound z s)) x z s k
    all-run (wraps f begin p) h z s k =
        w.in_wrap _ l.levels z s f (before begin s) (run l p z s) (firsts p z s) (others p z s) (λ t. gives-run l (λ a. shape_by allows (f a) ≡ true) p (h t).0 z s) (all-run p (λ t. (h t).1) z s k)
    all-run (grows begin p f) h z s k =
        let first = all-run p (λ t. (h t).0) z s k in
        all-growths w l.levels (λ y. run l (f y)) (λ y. firsts (f y)) (λ y. others (f y)) (λ y. given.reads _ (f y)) (λ y. all-run (f y) (λ t. ((h t).1 y).1)) (λ y v r t. gives-run l (λ u. if_by allows u.0 ≡ true) (f y) ((h t).1 y).0 v r)
        (before begin s) (suc (bound z s)) (run l p z s) (firsts p z s) (others p z s) z s (given.reads _ p z s k first) first
    all-run (nests f begin p x) h z s k =
        all-nestings w l.levels (λ y. run l (p y)) (λ y. firsts (p y)) (λ y. others (p y)) (λ y. given.reads _ (p y)) (λ y. all-run (p y) (λ t. (h t).1 y)) f (λ a t. (h t).0 a) begin (suc (bound z s)) x z s k
    all-run (scoped f p) h z s k =
        let t = entered (f s.reading) s in
        w.in_scope _ l.levels z s (f s.reading) (run l p z t) (firsts p z t) (others p z t) (all-run p h z t (w.at_entered z s (f s.reading) k))
    all-run (either p is_wrong q) h z s k =
        let o = run l p z s in
        let u = run l q z s in
        holds-if _ l.levels z s (is_wrong o.value) (given_up o u) o [] (firsts p z s) (firsts q z s ++ others q z s) (others p z s)
        (λ _. w.instead _ l.levels z s o u (firsts q z s) (others q z s) (all-run q (λ t. (h t).1) z s k)) (λ _. all-run p (λ t. (h t).0) z s k)
    all-run (calls c) h z s k = w.deeper _ l.levels z s (l.deeper c z s) (deep c z s) (deep_seconds c z s) (called c z s k)
    all-run (block b) h z s k = holds-if _ l.levels z s (l.has b) (followed (done l flushes z s) (λ _. bounded b (l.blocks b)) z) (plain tt s) _ [] _ [] (λ t. given.held b t z s k) (λ _. w.nothing _ l.levels z s tt false k)

  -- ---- by any rules, at every level

  abbrev pub CallsHold : Rules → CharClasses → ℕ → Type 0
  CallsHold r k levels = (c : Call) → AllHold (levels - 1) (meaning_of r k levels c) (call_spots r k levels c) (call_seconds r k levels c)

  module _ (w : Parts) (r : Rules) (k : CharClasses) (made : (c : Call) → T → PlainBy allows (r.production c))
      (given : (levels : ℕ) → CallsHold r k levels → Given (level_of r k levels) (call_spots r k levels) (call_seconds r k levels) (block_spots r k levels) (block_seconds r k levels)) where
    all-call : (levels : ℕ) → CallsHold r k levels
    unfolding meaning_of call_spots call_seconds
    all-call zero c z s a = w.nothing (Answer c) (zero - 1) z s (no_answer c) true a
    all-call (suc levels) c z s a =
        let e : levels ≡ suc levels - 1 = omega arith in
        subst (λ n. R (Answer c) n z s (meaning_of r k (suc levels) c z s) (call_spots r k (suc levels) c z s) (call_seconds r k (suc levels) c z s)) e
        (all-run w (level_of r k levels) (call_spots r k levels) (call_seconds r k levels) (block_spots r k levels) (block_seconds r k levels) (given levels (all-call levels)) (all-call levels) (r.production c) (made c) z s a)

    -- so of all that a parser reads
    pub all-level : {A : Type 0} (levels : ℕ) (p : Parser A) → (T → PlainBy allows p) → AllHold levels (run (level_of r k levels) p) (level_spots r k levels p) (level_seconds r k levels p)
    all-level levels p h =
        all-run w (level_of r k levels) (call_spots r k levels) (call_seconds r k levels) (block_spots r k levels) (block_seconds r k levels) (given levels (all-call levels)) (all-call levels) p h
