-- What takes the token at hand first: the trivia before it come first and stay there, and something is taken.
use Rattle.typst_grammar.proofs.Cited.{◌≡◌, ℕ, zero, suc, ◌+◌, ◌-◌, ◌<◌, ◌≤◌, Bool, true, false, ◌&&◌, if◌then◌else◌, nat_lt, List, [], ◌∷◌, ◌++◌, length, take, length-append, length-take, length-drop, Option, Some, None, refl, ap, sym, ◌⊎◌, inl, inr, subst, arith, is_error, Place, moved, Tree, Block, Call, Hand, as_at_hand, Point, pending, Making, hinted_last, hinted, Shape, shaped, Tidy, Backs, Begin, Parser, hand, column, takes, gives, does, next, pick, repeat, wraps, grows, nests, scoped, either, calls, block, Outcome, Meaning, Level, less, joined, answered, turns, as_last, before, bound, repeated, entered, inside, reshaped, wrapped, grown, is_more, growths, growing, nestings, nesting, given_up, hand_of, asked, run, hand-again, length-hinted, length-less, on_both, on_if, and_parts}
use Rattle.typst_language.specs.Syntax.Begin.{at_token, at_trivia}
use Rattle.typst_language.proofs.Backs.{backs-run, backs-turns, shape-counts, tidy-nestings, after_node-le}
use Rattle.typst_grammar.proofs.EatsFirst.{Begins, EatsFirst, is_at_token}
use Rattle.typst_grammar.proofs.Fine.{All, Steady}
use Rattle.typst_grammar.proofs.FineRuns.{Still, still-hand}
use Rattle.typst_grammar.proofs.Heads.{Bare, bare-advised, standing-none}

-- ---- the first of several nodes

all-take-both : (P : Tree → Type 0) (n m : ℕ) (ts : List Tree) → All P (take n ts) → All P (take n (take m ts))
all-take-both P zero m ts h = tt
all-take-both P (suc n) zero ts h = tt
all-take-both P (suc n) (suc m) [] h = tt
all-take-both P (suc n) (suc m) (t ∷ ts) h = (h.0, all-take-both P n m ts h.1)

pub all-take-front : (P : Tree → Type 0) (n : ℕ) (xs ys : List Tree) → n ≤ length xs → All P (take n xs) → All P (take n (xs ++ ys))
all-take-front P zero xs ys l h = tt
all-take-front P (suc n) [] ys l h = absurd (omega arith)
all-take-front P (suc n) (x ∷ xs) ys l h = (h.0, all-take-front P n xs ys (omega arith) h.1)

all-take-last : (P : Tree → Type 0) → Steady P → (hints : List (List ℕ)) (n : ℕ) (ts : List Tree) → All P (take n ts) → All P (take n (hinted_last hints ts))
all-take-last P f hints zero ts h = tt
all-take-last P f hints (suc n) [] h = tt
all-take-last P f hints (suc n) (t ∷ []) h = (on_both P (is_error t.head.kind) _ t (f hints t h.0) h.0, h.1)
all-take-last P f hints (suc n) (t ∷ u ∷ ts) h = (h.0, all-take-last P f hints n (u ∷ ts) h.1)

pub all-take-hinted : (P : Tree → Type 0) → Steady P → (hints : List (List ℕ)) (n : ℕ) (ts : List Tree) → All P (take n ts) → All P (take n (hinted hints ts))
all-take-hinted P f [] n ts h = h
all-take-hinted P f (hint ∷ hints) n ts h = all-take-last P f (hint ∷ hints) n ts h

pub all-take-less : (P : Tree → Type 0) (n m : ℕ) (ts : List Tree) → All P (take n ts) → All P (take n (less m ts))
unfolding less
all-take-less P n m ts h = all-take-both P n (length ts - m) ts h

pub all-front : (P : Tree → Type 0) (xs ys : List Tree) → All P xs → All P (take (length xs) (xs ++ ys))
all-front P [] ys h = tt
all-front P (x ∷ xs) ys h = (h.0, all-front P xs ys h.1)

pub all-bare : (ts : List Tree) → All Still ts → All Bare ts
all-bare [] h = tt
all-bare (t ∷ ts) h = ((h.0.no_sign, h.0.no_operator), all-bare ts h.1)

-- ---- what is given

-- Nothing is taken back, and neither are the first nodes by what follows. These are no operators where the trivia are known, and something is taken where something is left.
pub record Leads {A : Type 0} (K L : Type 0) (n : ℕ) (o : Outcome A) : Type 0 where
  pub none : o.back ≡ 0
  pub room : n + o.state.empties ≤ length o.nodes
  pub first : K → All Bare (take n o.nodes)
  pub taken : L → 0 < o.taken

leads-answered : {A B K L : Type 0} {n : ℕ} {o : Outcome A} (b : B) → Leads K L n o → Leads K L n (answered b o)
leads-answered b h = record { none = h.none; room = h.room; first = h.first; taken = h.taken }

pub leads-joined : {A B K L : Type 0} (n : ℕ) (o : Outcome B) (q : Outcome A) → Leads K L n o → Tidy o.state q → Leads K L n (joined o q)
leads-joined n o q h t =
    let a = h.none in let b = h.room in let c = t.back in let d = t.left in
    let one = length-append (hinted q.hints (less q.back o.nodes)) q.nodes in
    let two = length-less q.back o.nodes in
    let three = length-hinted q.hints (less q.back o.nodes) in
    record {
      none = omega arith;
      room = omega arith;
      first = λ k. all-take-front Bare n (hinted q.hints (less q.back o.nodes)) q.nodes (omega arith) (all-take-hinted Bare bare-advised q.hints n (less q.back o.nodes) (all-take-less Bare n q.back o.nodes (h.first k)));
      taken = λ i. (let some = h.taken i in omega (arith, some));
    }

-- after what gives nothing
leads-after : {A B K L : Type 0} (n : ℕ) (o : Outcome B) (q : Outcome A) → o.nodes ≡ [] → o.back ≡ 0 → Leads K L n q → Leads K L n (joined o q)
leads-after n o q e f h = grind (arith, standing-none)

leads-reshaped : {A K L : Type 0} (n : ℕ) (shape : Shape) (o : Outcome A) → Leads K L n o → Leads K L n (reshaped shape n o)
leads-reshaped n shape o h =
    let m = n + o.back in
    let ts = inside n o in
    let one = length-append (take m o.nodes) (shaped shape ts) in
    let two = length-take m o.nodes in
    let three = length-drop m o.nodes in
    let a = h.none in let b = h.room in
    record {
      none = a;
      room = (elim (shape-counts shape ts o.state) [
        | inl c ↦ omega (arith, a, b, c, one, two, three)
        | inr c ↦ omega (arith, a, b, c.0, c.1, one, two)
      ]);
      first = λ k. all-take-front Bare n (take m o.nodes) (shaped shape ts) (omega arith) (all-take-both Bare n m o.nodes (h.first k));
      taken = h.taken;
    }

leads-grown : {A K L : Type 0} (n : ℕ) (shape : Option Shape) (o : Outcome A) → Leads K L n o → Leads K L n (grown n shape o)
leads-grown n None o h = h
leads-grown n (Some shape) o h = leads-reshaped n shape o h

leads-growths : {A K L : Type 0} (m : A → Meaning (Option Shape × A)) → ((x : A) → Backs (m x)) → (n fuel : ℕ) (o : Outcome A) (z : Place) → Leads K L n o → Leads K L n (growths m n fuel o z)
leads-growths {K = K} {L = L} m tidy n zero o z h = h
leads-growths {K = K} {L = L} m tidy n (suc fuel) o z h =
    let p = m o.value (moved o.taken z) o.state in
    let more = grown n p.value.0 (answered p.value.1 (joined o p)) in
    let g = leads-grown n p.value.0 (answered p.value.1 (joined o p)) (leads-answered p.value.1 (leads-joined n o p h (tidy o.value (moved o.taken z) o.state))) in
    on_both (λ u. Leads K L n u) (is_more p.value.0 && nat_lt 0 p.taken) (growths m n fuel more z) more (leads-growths m tidy n fuel more z g) g

-- ---- where it is read

module _ (l : Level) where
  -- by what is known at a point, and left there
  abbrev pub Eaten : {A : Type 0} → Place → Point → Outcome A → Type 0
  Eaten z s o = Leads (All Still (pending s.known)) (0 < (hand_of l z s).gap + (hand_of l z s).len) (length (hand_of l z s).trivia) o

  eaten-takes : (making : Making) (z : Place) (s : Point) → Eaten z s (run l (does (takes false making)) z s)
  unfolding run
  eaten-takes making z s = grind (arith, length-append, after_node-le, all-front, all-bare, still-hand)

  -- the trivia that are known come before a node that begins here
  pub begins-at : (looked : Bool) (begin : Begin) (n : ℕ) (s : Point) → (looked && is_at_token begin) ≡ true → (looked ≡ true → length (pending s.known) ≡ n) → before begin s ≡ n
  begins-at looked at_token n s e known = known (and_parts looked true e).0
  begins-at looked at_trivia n s e known = let x = (and_parts looked false e).1 in absurd (cc)

  -- a turn with all that comes after it
  abbrev pub nested : {A : Type 0} → (A → Shape) → Begin → (A → Parser (Bool × A)) → A → Place → Point → Outcome A
  nested f begin p x z s =
      let o = run l (p x) z s in
      if o.value.0 && nat_lt 0 o.taken then joined o (nestings f begin (λ y. run l (p y)) (bound z s) o.value.1 (moved o.taken z) o.state) else as_last o

  -- of a token at a place, where this is known of its trivia
  module _ (z : Place) (h : Hand) (K : Type 0) where
    abbrev pub Here : {A : Type 0} → Outcome A → Type 0
    Here o = Leads K (0 < h.gap + h.len) (length h.trivia) o

    -- it is at hand, and was looked at if this says so
    pub record At (looked : Bool) (s : Point) : Type 0 where
      pub same : hand_of l z s ≡ h
      pub known : looked ≡ true → length (pending s.known) ≡ length h.trivia
      pub still : K → All Still (pending s.known)

    pub looked-at : (looked : Bool) (s : Point) → At looked s → At true (asked (hand_of l z s) s)
    looked-at looked s a = grind (arith, hand-again, still-hand)

    -- there were only looks at it
    pub record Looked {A : Type 0} (rest : Bool → A → Type 0) (o : Outcome A) : Type 0 where
      pub nodes : o.nodes ≡ []
      pub back : o.back ≡ 0
      pub taken : o.taken ≡ 0
      pub looked : Bool
      pub holds : rest looked o.value
      pub there : At looked o.state

    eaten-at : {A : Type 0} (looked : Bool) (s : Point) (o : Outcome A) → At looked s → Eaten z s o → Here o
    eaten-at looked s o a x = grind arith

    pub eaten-of : {A : Type 0} (o : Outcome A) → Here o ⊎ Looked (λ _ _. ⊥) o → Here o
    eaten-of o h = grind arith

    looked-then : {A B : Type 0} (rest : Bool → A → Type 0) (o : Outcome B) (q : Outcome A) → o.nodes ≡ [] → o.back ≡ 0 → o.taken ≡ 0 → Here q ⊎ Looked rest q → Here (joined o q) ⊎ Looked rest (joined o q)
    looked-then rest o q e f g h = grind (arith, leads-after, standing-none)

    module _ (d : (c : Call) → Backs (l.deeper c)) (e : (b : Block) → Backs (l.blocks b)) (blocks : Bool) (i : blocks ≡ true → (b : Block) (s : Point) → Eaten z s (run l (block b) z s)) where
      pub leads-nested : {A : Type 0} (f : A → Shape) (begin : Begin) (p : A → Parser (Bool × A)) (x : A) (s : Point) → Here (run l (p x) z s) → Here (nested f begin p x z s)
      leads-nested f begin p x s first =
          let o = run l (p x) z s in
          let more = nestings f begin (λ y. run l (p y)) (bound z s) o.value.1 (moved o.taken z) o.state in
          on_both (λ u. Here u) (o.value.0 && nat_lt 0 o.taken) (joined o more) (as_last o)
          (leads-joined (length h.trivia) o more first (tidy-nestings f begin (λ y. run l (p y)) (λ y. backs-run l d e (p y)) (bound z s) o.value.1 (moved o.taken z) o.state)) (leads-answered o.value.1 first)

      -- what begins so leads, where blocks do, or there are only looks
      pub begins-run : {A : Type 0} (looked : Bool) (rest : Bool → A → Type 0) (p : Parser A) → Begins (as_at_hand h) blocks looked rest p → (s : Point) → At looked s → Here (run l p z s) ⊎ Looked rest (run l p z s)
      unfolding run repeated growing nesting
      begins-run looked rest (gives x) w s a = inr (record { nodes = refl; back = refl; taken = refl; looked = looked; holds = w; there = a })
      begins-run looked rest (does hand) w s a =
          inr (record { nodes = refl; back = refl; taken = refl; looked = true; holds = subst (λ (v : Hand). rest true (as_at_hand v)) (sym a.same) w; there = looked-at looked s a })
      begins-run looked rest (does column) w s a = inr (record { nodes = refl; back = refl; taken = refl; looked = true; holds = w _; there = looked-at looked s a })
      begins-run looked rest (does (takes false making)) w s a = inl (eaten-at looked s (run l (does (takes false making)) z s) a (eaten-takes making z s))
      begins-run looked rest (does (takes true making)) w s a = absurd (cc)
      begins-run looked rest (does _) w s a = absurd w
      begins-run looked rest (next p f) w s a =
          let o = run l p z s in
          elim (begins-run looked (λ seen b. Begins (as_at_hand h) blocks seen rest (f b)) p w s a) [
            | inl x ↦ inl (leads-joined (length h.trivia) o (run l (f o.value) (moved o.taken z) o.state) x (backs-run l d e (f o.value) (moved o.taken z) o.state))
            | inr u ↦ subst (λ (v : Place). Here (joined o (run l (f o.value) v o.state)) ⊎ Looked rest (joined o (run l (f o.value) v o.state))) (sym (ap (λ (n : ℕ). moved n z) u.taken))
                (looked-then rest o (run l (f o.value) z o.state) u.nodes u.back u.taken (begins-run u.looked rest (f o.value) u.holds o.state u.there))
          ]
      begins-run looked rest (pick b p q) w s a =
          on_if (λ u. Here u ⊎ Looked rest u) b (run l p z s) (run l q z s) (λ t. begins-run looked rest p (w.0 t) s a) (λ t. begins-run looked rest q (w.1 t) s a)
      begins-run looked rest (repeat p x) w s a =
          let o = run l (p x) z s in
          let more = turns (λ y. run l (p y)) (bound z s) o.value.1 (moved o.taken z) o.state in
          let first = eaten-of o (begins-run looked (λ _ _. ⊥) (p x) w s a) in
          inl (on_both (λ u. Here u) (o.value.0 && nat_lt 0 o.taken) (joined o more) (as_last o)
          (leads-joined (length h.trivia) o more first (backs-turns (λ y. run l (p y)) (λ y. backs-run l d e (p y)) (bound z s) o.value.1 (moved o.taken z) o.state)) (leads-answered o.value.1 first))
      begins-run looked rest (wraps f begin p) w s a =
          let o = run l p z s in
          let r = leads-reshaped (length h.trivia) (f o.value) o (eaten-of o (begins-run looked (λ _ _. ⊥) p w.1 s a)) in
          inl (subst (λ (m : ℕ). Here (wrapped f m o)) (sym (begins-at looked begin (length h.trivia) s w.0 a.known)) (record { none = r.none; room = r.room; first = r.first; taken = r.taken }))
      begins-run looked rest (grows begin p f) w s a =
          let o = run l p z s in
          inl (subst (λ (m : ℕ). Here (growths (λ y. run l (f y)) m (suc (bound z s)) o z)) (sym (begins-at looked begin (length h.trivia) s w.0 a.known))
          (leads-growths (λ y. run l (f y)) (λ y. backs-run l d e (f y)) (length h.trivia) (suc (bound z s)) o z (eaten-of o (begins-run looked (λ _ _. ⊥) p w.1 s a))))
      begins-run looked rest (nests f begin p x) w s a =
          let q = nested f begin p x z s in
          inl (subst (λ (m : ℕ). Here (reshaped (f q.value) m q)) (sym (begins-at looked begin (length h.trivia) s w.0 a.known))
          (leads-reshaped (length h.trivia) (f q.value) q (leads-nested f begin p x s (eaten-of (run l (p x) z s) (begins-run looked (λ _ _. ⊥) (p x) w.1 s a)))))
      begins-run looked rest (scoped f p) w s a =
          let t = entered (f s.reading) s in
          let o = run l p z t in
          let x = eaten-of o (begins-run looked (λ _ _. ⊥) p w t (record { same = a.same; known = a.known; still = a.still })) in
          grind arith
      begins-run looked rest (either p is_wrong q) w s a =
          let x = eaten-of (run l q z s) (begins-run looked (λ _ _. ⊥) q w.1 s a) in
          inl (on_both (λ u. Here u) (is_wrong (run l p z s).value) (given_up (run l p z s) (run l q z s)) (run l p z s) (record { none = x.none; room = x.room; first = x.first; taken = x.taken })
          (eaten-of (run l p z s) (begins-run looked (λ _ _. ⊥) p w.0 s a)))
      begins-run looked rest (calls c) w s a = absurd w
      begins-run looked rest (block b) w s a = inl (eaten-at looked s (run l (block b) z s) a (i w b s))

  -- what takes the token at hand first
  pub eats-leads : {A : Type 0} → ((c : Call) → Backs (l.deeper c)) → ((b : Block) → Backs (l.blocks b)) → (blocks : Bool) → (blocks ≡ true → (b : Block) (z : Place) (s : Point) → Eaten z s (run l (block b) z s)) → (p : Parser A) (z : Place) (s : Point)
      → EatsFirst (as_at_hand (hand_of l z s)) blocks false p → Eaten z s (run l p z s)
  eats-leads d e blocks i p z s w =
      let h = hand_of l z s in
      let K : Type 0 = All Still (pending s.known) in
      eaten-of z h K (run l p z s) (begins-run z h K d e blocks (λ t b u. i t b z u) false (λ _ _. ⊥) p w s (record { same = refl; known = λ t. absurd (cc); still = λ k. k }))
