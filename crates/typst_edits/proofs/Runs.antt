-- The law of an edit inside some turns of a loop.
use Rattle.typst_edits.proofs.Cited.{◌≡◌, ℕ, zero, suc, ◌+◌, ◌<◌, Bool, nat_lt, List, [], ◌∷◌, refl, ap, sym, ◌∙◌, arith, true, ◌++◌, ltb-true, Place, moved, SameIn, Point, Outcome, Meaning, joined, turns, bound, repeated, Level, run, Framed, Within, same_in-shift, same_in-first, same_in-second, moved-sum, and-second, turns-enough, goes, made, AllGo, end_of, asks_of, chain, End, SyntaxKind, Sequence, turn_of, first_of, first_end, then_of, then_end, rest_of, peek, AtHand, repeat, markup_turn, if-true}

module _ {A : Type 0} (m : A → Meaning (Bool × A)) where
  -- the first turns, and the rest
  pub repeated-chain : ((x : A) → Within (m x)) → (n : ℕ) (x : A) (z : Place) (s : Point) → AllGo (made m n x z s)
      → (let e = end_of x s (made m n x z s) in repeated m x z s ≡ chain (made m n x z s) (repeated m e.value (moved e.taken z) e.state))
  unfolding repeated
  repeated-chain w zero x z s g = refl
  repeated-chain w (suc n) x z s g =
      let o = m x z s in
      let y = moved o.taken z in
      let some : 0 < o.taken = ltb-true 0 o.taken (and-second o.value.0 (nat_lt 0 o.taken) g.0) in
      let most = w x z s in
      let e = end_of o.value.1 o.state (made m n o.value.1 y o.state) in
      let enough : turns m (bound z s) o.value.1 y o.state ≡ repeated m o.value.1 y o.state = turns-enough m w (bound z s) (suc (bound y o.state)) o.value.1 y o.state (omega arith) (omega arith) in
      if-true (goes o) _ _ g.0
      ∙ ap (joined o) (enough ∙ repeated-chain w n o.value.1 y o.state g.1 ∙ ap (λ v. chain (made m n o.value.1 y o.state) (repeated m e.value v e.state)) (sym (moved-sum o.taken e.taken z)))

  -- Where they show the same, they are the same.
  pub made-same : ((x : A) → Framed (m x)) → (n : ℕ) (x : A) (z w : Place) (s : Point) → SameIn (asks_of (made m n x z s)) z w → made m n x w s ≡ made m n x z s
  made-same f zero x z w s h = refl
  made-same f (suc n) x z w s h =
      let o = m x z s in
      ap (λ u. u ∷ made m n u.value.1 (moved u.taken w) u.state) (f x z w s (same_in-first o.asks _ z w h))
      ∙ ap (λ u. o ∷ u) (made-same f n o.value.1 (moved o.taken z) (moved o.taken w) o.state (same_in-shift o.taken _ z w (same_in-second o.asks _ z w h)))

-- ---- chains

pub chain-state : {A B : Type 0} (os : List (Outcome (Bool × A))) (q : Outcome B) → (chain os q).state ≡ q.state
chain-state [] q = refl
chain-state (o ∷ os) q = chain-state os q

pub chain-taken : {A B : Type 0} (x : A) (s : Point) (os : List (Outcome (Bool × A))) (q : Outcome B) → (chain os q).taken ≡ (end_of x s os).taken + q.taken
chain-taken x s [] q = omega arith
chain-taken x s (o ∷ os) q = let e = chain-taken o.value.1 o.state os q in omega (arith, e)

-- ---- places

pub moved-four : (a b d e : ℕ) (z : Place) → moved e (moved d (moved b (moved a z))) ≡ moved ((a + b) + (d + e)) z
moved-four a b d e z = ap (λ u. moved e (moved d u)) (sym (moved-sum a b z)) ∙ sym (moved-sum d e (moved (a + b) z)) ∙ sym (moved-sum (a + b) (d + e) z)

pub moved-three : (a b d : ℕ) (z : Place) → moved ((a + b) + d) z ≡ moved d (moved b (moved a z))
moved-three a b d z = moved-sum (a + b) d z ∙ ap (moved d) (moved-sum a b z)

-- ---- any run

-- Where pieces end depends only on them, if there are some.
pub end-by-pieces : (i : ℕ) (q p : Sequence) → 0 < i → first_of i q ≡ first_of i p → first_end i q ≡ first_end i p
end-by-pieces zero q p some e = absurd (omega (arith, some))
end-by-pieces (suc i) q p some e = ap (end_of (true, 0) p.point) e

module _ (r : Sequence) where
  -- its pieces, and the rest
  pub split : ((x : Bool × ℕ) → Within (turn_of r x)) → (i n : ℕ) → AllGo (first_of i r) → AllGo (then_of i n r) → repeated (turn_of r) (true, 0) r.place r.point ≡ chain (first_of i r) (chain (then_of i n r) (rest_of i n r))
  split within i n g h =
      let e = first_end i r in
      repeated-chain (turn_of r) within i (true, 0) r.place r.point g ∙ ap (chain (first_of i r)) (repeated-chain (turn_of r) within n e.value (moved e.taken r.place) e.state h)

  -- how many characters they take
  pub split-taken : (i n : ℕ) → (chain (first_of i r) (chain (then_of i n r) (rest_of i n r))).taken ≡ ((first_end i r).taken + (then_end i n r).taken) + (rest_of i n r).taken
  split-taken i n =
      let e = first_end i r in
      omega (arith, chain-taken (true, 0) r.point (first_of i r) (chain (then_of i n r) (rest_of i n r)), chain-taken e.value e.state (then_of i n r) (rest_of i n r))

  pub split-state : (i n : ℕ) → (chain (first_of i r) (chain (then_of i n r) (rest_of i n r))).state ≡ (rest_of i n r).state
  split-state i n = chain-state (first_of i r) _ ∙ chain-state (then_of i n r) _

  -- By the frame law what follows is the same where it shows the same.
  pub rest-again : ((x : Bool × ℕ) → Framed (run r.level (repeat (markup_turn true r.stops) x))) → (f g : End (Bool × ℕ)) (v y : Place) → g.value ≡ f.value → g.state ≡ f.state
      → SameIn (repeated (turn_of r) f.value v f.state).asks v y → repeated (turn_of r) g.value y g.state ≡ repeated (turn_of r) f.value v f.state
  unfolding run
  rest-again framed f g v y e d same = ap (λ x. repeated (turn_of r) x y g.state) e ∙ ap (λ s. repeated (turn_of r) f.value y s) d ∙ framed f.value v y f.state same

-- a run that begins at this point with a look at its first token
abbrev pub begun_at : Level → (SyntaxKind → Bool) → Point → Place → Sequence
begun_at l stops p y = record { level = l; stops = stops; place = y; point = (run l peek y p).state }

-- Its first pieces are the same where all up to their end shows the same.
pub first-again : (l : Level) (stops : SyntaxKind → Bool) → Framed (run l peek) → ((x : Bool × ℕ) → Framed (run l (markup_turn true stops x))) → (p : Point) (i : ℕ) (y v : Place)
    → (0 < i → SameIn ((run l peek y p).asks ++ asks_of (first_of i (begun_at l stops p y))) y v) → first_of i (begun_at l stops p v) ≡ first_of i (begun_at l stops p y)
first-again l stops looks turns p zero y v h = refl
first-again l stops looks turns p (suc i) y v h =
    let o = run l peek y p in
    let m = turn_of (begun_at l stops p y) in
    let same = h (omega arith) in
    ap (λ (u : Outcome AtHand). made m (suc i) (true, 0) v u.state) (looks y v p (same_in-first o.asks _ y v same)) ∙ made-same m turns (suc i) (true, 0) y v o.state (same_in-second o.asks _ y v same)
