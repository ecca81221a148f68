-- The law of the frame, for whatever the language can say.
use Rattle.typst_language.proofs.Cited.{◌≡◌, ℕ, zero, suc, ◌+◌, ◌<◌, ◌≤◌, max, Bool, true, false, ◌&&◌, if◌then◌else◌, nat_lt, List, [], ◌∷◌, ◌++◌, length, take, refl, ap, sym, ◌∙◌, subst, arith, Option, Some, None, ltb-true, SyntaxKind, SyntaxMode, Place, moved, CharClasses, token_node, Token, token, and-second, Block, Call, Newlines, Reading, Trivia, Point, gap_of, forgot, Ask, SameIn, shift, looked, token_at, len_at, at_trivia, Hand, AtHand, as_at_hand, Ahead, direct, after_trivia, ahead_by, ahead, asks_by, ahead_asks, ahead_of, ahead_asks_of, column_at, column_look, stops, asks_column, hand_by, hand_at, hand_asks, Shape, Op, Begin, Parser, hand, so, further, column, erred, takes, takes_so, flushes, complains, advises, marks, is_deepest, gives, does, next, pick, repeat, wraps, grows, nests, scoped, either, calls, block, is_trivia, Outcome, Meaning, Level, joined, answered, followed, turns, as_last, bound, repeated, before, wrapped, grown, is_more, growths, growing, nestings, nesting, closed, bounded, deeper_by_one, given_up, chosen, entered, left_to, plain, hand_of, hand_asks_of, asked, flushed_state, reader_so, done, run, Framed, Within}
use Rattle.typst_kinds.specs.declared.kind.SyntaxKind.TheVariants as kind
use Rattle.typst_language.proofs.Places.{moved-sum, ahead-left}
use Rattle.typst_language.proofs.Within.{grew, nest, turns-enough, growths-enough, nestings-enough, within-run, if-same}
use Rattle.typst_language.proofs.Looks.{same_in-shift, same_in-first, same_in-second, same_in-only, same_in-sunk, token-same, column-same}

-- ---- the token at hand

no-trivia : (k : CharClasses) (m : SyntaxMode) (z : Place) → length z.ahead ≡ 0 → at_trivia k m z ≡ true → ⊥
no-trivia k m z e h = let some : 0 < len_at k m z = ltb-true 0 (len_at k m z) (and-second (is_trivia (token_at k m z).kind) (nat_lt 0 (len_at k m z)) h) in absurd (omega arith)

-- the text of the token after the trivia
abbrev Text_same : Ahead → Place → Place → Type 0
Text_same a z w = take a.len (moved a.gap w).ahead ≡ take a.len (moved a.gap z).ahead

-- the trivia and the token after it, and what was asked for them
record Ahead_same (k : CharClasses) (m : SyntaxMode) (i j : ℕ) (z w : Place) : Type 0 where
  nodes : ahead_by k m j w ≡ ahead_by k m i z
  asks : asks_by k m j w ≡ asks_by k m i z
  text : Text_same (ahead_by k m i z) z w

-- more trivia than characters are never there
trivia-enough : (k : CharClasses) (m : SyntaxMode) (i j : ℕ) (z : Place) → length z.ahead ≤ i → length z.ahead ≤ j → Ahead_same k m i j z z
trivia-enough k m zero zero z a b = record { nodes = refl; asks = refl; text = refl }
trivia-enough k m zero (suc j) z a b = grind arith
trivia-enough k m (suc i) zero z a b = grind arith
trivia-enough k m (suc i) (suc j) z a b =
    let l = len_at k m z in
    let left = ahead-left l z in
    let rest : at_trivia k m z ≡ true → Ahead_same k m i j (moved l z) (moved l z) = λ h.
    (let some : 0 < l = ltb-true 0 l (and-second (is_trivia (token_at k m z).kind) (nat_lt 0 l) h) in trivia-enough k m i j (moved l z) (omega arith) (omega arith)) in
    grind arith

-- one token, which may be trivia, and what is read after it
abbrev step : CharClasses → Token → ℕ → List ℕ → Ahead → Ahead
step k t n text rest = if is_trivia t.kind && nat_lt 0 n then after_trivia t n (token_node k t text) rest else direct t n

held : (b : Bool) (asks : List Ask) (z w : Place) → SameIn (if b then asks else []) z w → b ≡ true → SameIn asks z w
held true asks z w h e = h
held false asks z w h e = cc

-- the text of the token after one trivia token more
text-step : (b : Bool) (t : Token) (l : ℕ) (node : _) (rest : Ahead) (z w : Place) → take l w.ahead ≡ take l z.ahead → (b ≡ true → Text_same rest (moved l z) (moved l w))
    → Text_same (if b then after_trivia t l node rest else direct t l) z w
text-step true t l node rest z w e h = grind (arith, moved-sum)
text-step false t l node rest z w e h = e

trivia-frame : (k : CharClasses) (m : SyntaxMode) (n : ℕ) (z w : Place) → SameIn (asks_by k m n z) z w → Ahead_same k m n n z w
trivia-frame k m zero z w h = grind (arith, token-same (token k m) z w h.0)
trivia-frame k m (suc n) z w h =
    let t = token-same (token k m) z w h.0 in
    let tok = token_at k m z in
    let len = len_at k m z in
    let rest : at_trivia k m z ≡ true → Ahead_same k m n n (moved len z) (moved len w) = λ b.
    trivia-frame k m n (moved len z) (moved len w) (same_in-shift len _ z w (held (at_trivia k m z) _ z w h.1 b)) in
    grind (arith, if-same, text-step)

-- trivia and token at two places
record Same_ahead (a b : Ahead) (here there : List Ask) (z w : Place) : Type 0 where
  nodes : b ≡ a
  asks : there ≡ here
  text : Text_same a z w

ahead-frame : (k : CharClasses) (m : SyntaxMode) (z w : Place) → SameIn (ahead_asks k m z) z w → Same_ahead (ahead k m z) (ahead k m w) (ahead_asks k m z) (ahead_asks k m w) z w
unfolding ahead ahead_asks
ahead-frame k m z w h =
    let n = max (length z.ahead) (length w.ahead) in
    let here = trivia-enough k m (length z.ahead) n z (omega arith) (omega arith) in
    grind (arith, trivia-enough, trivia-frame)

abbrev after_known : Trivia → Token → ℕ → Ahead
after_known t tok n = record { trivia = t.nodes; gap = t.gap; newlines = t.newlines; token = tok; len = n }

-- what is ahead has a frame also where the trivia may be known
ahead_of-frame : (k : CharClasses) (m : SyntaxMode) (known : Option Trivia) (z w : Place) → SameIn (ahead_asks_of k m known z) z w
    → Same_ahead (ahead_of k m known z) (ahead_of k m known w) (ahead_asks_of k m known z) (ahead_asks_of k m known w) z w
ahead_of-frame k m None z w h = ahead-frame k m z w h
ahead_of-frame k m (Some t) z w h = grind (arith, token-same (token k m) (moved t.gap z) (moved t.gap w) h.0)

-- ---- the column

-- only where a rule asks for the column does it matter
stops-same : (reading : Reading) (newlines : Newlines) (kind : SyntaxKind) (c d : ℕ) → (asks_column reading newlines ≡ true → c ≡ d) → stops reading newlines kind c ≡ stops reading newlines kind d
stops-same reading newlines kind c d = grind arith

abbrev with_stop : Ahead → Bool → Hand
with_stop a stop = record { kind = if stop then kind.End else a.token.kind; trivia = a.trivia; gap = a.gap; len = a.len; newlines = a.newlines; token = a.token }

hand-same : (held : Reading) (c d : ℕ) (a : Ahead) → (asks_column held a.newlines ≡ true → c ≡ d) → hand_by held c a ≡ hand_by held d a
hand-same held c d a h = ap (with_stop a) (stops-same held a.newlines a.token.kind c d h)

column-frame : (gap : ℕ) (b : Bool) (z w : Place) → SameIn (if b then looked gap (column_look (moved gap z)) ∷ [] else []) z w → b ≡ true → column_at (moved gap w) ≡ column_at (moved gap z)
column-frame gap true z w h e = column-same (moved gap z) (moved gap w) h.0
column-frame gap false z w h e = cc

-- the token at hand at two places
pub record Same_hand (h g : Hand) (here there : List Ask) (z w : Place) : Type 0 where
  pub hand : g ≡ h
  pub asks : there ≡ here
  pub text : take h.len (moved h.gap w).ahead ≡ take h.len (moved h.gap z).ahead

pub hand-frame : (k : CharClasses) (held : Reading) (known : Option Trivia) (z w : Place) → SameIn (hand_asks k held known z) z w
    → Same_hand (hand_at k held known z) (hand_at k held known w) (hand_asks k held known z) (hand_asks k held known w) z w
unfolding hand_at hand_asks
hand-frame k held known z w h =
    let a = ahead_of k held.mode known z in
    let front = ahead_asks_of k held.mode known z in
    let first = ahead_of-frame k held.mode known z w (same_in-first front _ z w h) in
    let column = column-frame a.gap (asks_column held a.newlines) z w (same_in-second front _ z w h) in
    grind arith

-- ---- the frame

framed-followed : {A B : Type 0} (m : Meaning B) (f : B → Meaning A) → Framed m → ((b : B) → Framed (f b))
    → (z w : Place) (s : Point) → SameIn (followed (m z s) f z).asks z w → followed (m w s) f w ≡ followed (m z s) f z
framed-followed m f first rest z w s h =
    let o = m z s in
    let e = first z w s (same_in-first o.asks _ z w h) in
    let p = rest o.value (moved o.taken z) (moved o.taken w) o.state (same_in-shift o.taken _ z w (same_in-second o.asks _ z w h)) in
    rw e (ap (joined o) p)

either-framed : {A : Type 0} (b : Bool) (x y u v : Outcome A) (z w : Place)
    → SameIn (if b then x else u).asks z w → (SameIn x.asks z w → y ≡ x) → (SameIn u.asks z w → v ≡ u) → (if b then y else v) ≡ (if b then x else u)
either-framed true x y u v z w h f g = f h
either-framed false x y u v z w h f g = g h

if-framed : {A : Type 0} (b : Bool) (x y u : Outcome A) (z w : Place)
    → SameIn (if b then x else u).asks z w → (SameIn x.asks z w → y ≡ x) → (if b then y else u) ≡ (if b then x else u)
if-framed true x y u z w h f = f h
if-framed false x y u z w h f = refl

first_asks : {A : Type 0} (b : Bool) (x u : Outcome A) (ls : List Ask) (z w : Place) → (SameIn x.asks z w → SameIn ls z w) → (SameIn u.asks z w → SameIn ls z w) → SameIn (if b then x else u).asks z w → SameIn ls z w
first_asks true x u ls z w f g h = f h
first_asks false x u ls z w f g h = g h

pub framed-turns : {A : Type 0} (m : A → Meaning (Bool × A)) → ((x : A) → Framed (m x)) → (n : ℕ) (x : A) → Framed (turns m n x)
framed-turns m f zero x z w s h = refl
framed-turns m f (suc n) x z w s h =
    let o = m x z s in
    let b = o.value.0 && nat_lt 0 o.taken in
    let e = f x z w s (first_asks b _ _ o.asks z w (same_in-first o.asks _ z w) (λ l. l) h) in
    rw e (if-framed b _ _ _ z w h (λ l.
    ap (joined o) (framed-turns m f n o.value.1 (moved o.taken z) (moved o.taken w) o.state (same_in-shift o.taken _ z w (same_in-second o.asks _ z w l)))))

framed-repeated : {A : Type 0} (m : A → Meaning (Bool × A)) → ((x : A) → Within (m x)) → ((x : A) → Framed (m x)) → (x : A) → Framed (repeated m x)
unfolding repeated
framed-repeated m w f x z v s h =
    let k = suc (max (bound z s) (bound v s)) in
    let here = turns-enough m w (suc (bound z s)) k x z s (omega arith) (omega arith) in
    let there = turns-enough m w (suc (bound v s)) k x v s (omega arith) (omega arith) in
    there ∙ framed-turns m f k x z v s (subst (λ o. SameIn o.asks z v) here h) ∙ sym here

-- what grows asked first what it began with
pub grown-asks : {A : Type 0} (n : ℕ) (shape : Option Shape) (o : Outcome A) → (grown n shape o).asks ≡ o.asks
grown-asks n shape o = grind arith

pub grew-asks : {A : Type 0} (n : ℕ) (o : Outcome A) (p : Outcome (Option Shape × A)) (z w : Place) → SameIn (grew n o p).asks z w → SameIn (o.asks ++ shift o.taken p.asks) z w
grew-asks n o p z w h = subst (λ ls. SameIn ls z w) (grown-asks n p.value.0 (answered p.value.1 (joined o p))) h

pub growths-asks : {A : Type 0} (m : A → Meaning (Option Shape × A)) (n k : ℕ) (o : Outcome A) (z w : Place) → SameIn (growths m n k o z).asks z w → SameIn o.asks z w
growths-asks m n zero o z w h = h
growths-asks m n (suc k) o z w h =
    let p = m o.value (moved o.taken z) o.state in
    first_asks (is_more p.value.0 && nat_lt 0 p.taken) (growths m n k (grew n o p) z) (grew n o p) o.asks z w
    (λ l. same_in-first o.asks _ z w (grew-asks n o p z w (growths-asks m n k (grew n o p) z w l))) (λ l. same_in-first o.asks _ z w (grew-asks n o p z w l)) h

turn-asks : {A : Type 0} (m : A → Meaning (Option Shape × A)) (n k : ℕ) (o : Outcome A) (p : Outcome (Option Shape × A)) (z w : Place)
    → SameIn (if is_more p.value.0 && nat_lt 0 p.taken then growths m n k (grew n o p) z else grew n o p).asks z w → SameIn p.asks (moved o.taken z) (moved o.taken w)
turn-asks m n k o p z w h = grind (arith, same_in-shift, same_in-second, grew-asks, growths-asks)

framed-growths : {A : Type 0} (m : A → Meaning (Option Shape × A)) → ((x : A) → Framed (m x)) → (n k : ℕ) (o : Outcome A) (z w : Place)
    → SameIn (growths m n k o z).asks z w → growths m n k o w ≡ growths m n k o z
framed-growths m f n zero o z w h = refl
framed-growths m f n (suc k) o z w h =
    let p = m o.value (moved o.taken z) o.state in
    let e = f o.value (moved o.taken z) (moved o.taken w) o.state (turn-asks m n k o p z w h) in
    rw e (if-framed (is_more p.value.0 && nat_lt 0 p.taken) _ _ (grew n o p) z w h (λ l. framed-growths m f n k (grew n o p) z w l))

framed-growing : {A : Type 0} (m : A → Meaning (Option Shape × A)) (first : Meaning A) (n : Point → ℕ) → ((x : A) → Within (m x)) → Within first → ((x : A) → Framed (m x)) → Framed first
    → (z w : Place) (s : Point) → SameIn (growing m (n s) first z s).asks z w → growing m (n s) first w s ≡ growing m (n s) first z s
unfolding growing
framed-growing m first n b c f g z w s h =
    let k = suc (max (bound z s) (bound w s)) in
    let here = growths-enough m b (n s) (suc (bound z s)) k z (gap_of s.known) (first z s) (c z s) (omega arith) (omega arith) in
    let there = growths-enough m b (n s) (suc (bound w s)) k w (gap_of s.known) (first w s) (c w s) (omega arith) (omega arith) in
    let l = subst (λ o. SameIn o.asks z w) here h in
    let e = g z w s (growths-asks m (n s) k (first z s) z w l) in
    there ∙ ap (λ o. growths m (n s) k o w) e ∙ framed-growths m f (n s) k (first z s) z w l ∙ sym here

pub framed-nestings : {A : Type 0} (f : A → Shape) (begin : Begin) (m : A → Meaning (Bool × A)) → ((x : A) → Framed (m x)) → (n : ℕ) (x : A) → Framed (nestings f begin m n x)
framed-nestings f begin m g zero x z w s h = refl
framed-nestings f begin m g (suc n) x z w s h =
    let o = m x z s in
    let b = o.value.0 && nat_lt 0 o.taken in
    let e = g x z w s (first_asks b (followed o (λ v. nestings f begin m n v.1) z) (as_last o) o.asks z w (same_in-first o.asks _ z w) (λ l. l) h) in
    rw e (ap (nest f (before begin s)) (if-framed b _ _ (as_last o) z w h (λ l.
    ap (joined o) (framed-nestings f begin m g n o.value.1 (moved o.taken z) (moved o.taken w) o.state (same_in-shift o.taken _ z w (same_in-second o.asks _ z w l))))))

framed-nesting : {A : Type 0} (f : A → Shape) (begin : Begin) (m : A → Meaning (Bool × A)) → ((x : A) → Within (m x)) → ((x : A) → Framed (m x)) → (x : A) → Framed (nesting f begin m x)
unfolding nesting
framed-nesting f begin m w g x z v s h =
    let k = suc (max (bound z s) (bound v s)) in
    let here = nestings-enough f begin m w (suc (bound z s)) k x z s (omega arith) (omega arith) in
    let there = nestings-enough f begin m w (suc (bound v s)) k x v s (omega arith) (omega arith) in
    there ∙ framed-nestings f begin m g k x z v s (subst (λ o. SameIn o.asks z v) here h) ∙ sym here

framed-bounded : (b : Block) (m : Meaning (Unit {0})) → Framed m → Framed (bounded b m)
framed-bounded b m f z w s h = ap (λ o. closed b s o) (f z w (forgot s) (same_in-first (m z (forgot s)).asks _ z w h.1))

chosen-asks : {A : Type 0} (b : Bool) (o x : Outcome A) (z w : Place) → SameIn (if b then given_up o x else o).asks z w → SameIn o.asks z w
chosen-asks true o x z w h = same_in-first o.asks x.asks z w (same_in-only (o.asks ++ x.asks) z w h)
chosen-asks false o x z w h = h

chosen-same : {A : Type 0} (b : Bool) (o x y : Outcome A) (z w : Place) → SameIn (if b then given_up o x else o).asks z w
    → (SameIn (given_up o x).asks z w → y ≡ x) → (if b then given_up o y else o) ≡ (if b then given_up o x else o)
chosen-same true o x y z w h f = ap (given_up o) (f h)
chosen-same false o x y z w h f = refl

framed-chosen : {A : Type 0} (is_wrong : A → Bool) (p q : Meaning A) → Framed p → Framed q → (z w : Place) (s : Point)
    → SameIn (chosen is_wrong (p z s) (q z s)).asks z w → chosen is_wrong (p w s) (q w s) ≡ chosen is_wrong (p z s) (q z s)
framed-chosen is_wrong p q f g z w s h = grind (arith, chosen-asks, chosen-same, same_in-second, same_in-only)

abbrev flushed : Point → List Ask → Hand → Outcome (Unit {0})
flushed s asks h = record (plain tt (flushed_state h s)) { taken = h.gap; nodes = h.trivia; asks = asks }

abbrev shown : Point → List Ask → Hand → Outcome AtHand
shown s asks h = record (plain (as_at_hand h) (asked h s)) { asks = asks }

module _ (l : Level) where
  at_hand : (z w : Place) (s : Point) → SameIn (hand_asks_of l z s) z w → Same_hand (hand_of l z s) (hand_of l w s) (hand_asks_of l z s) (hand_asks_of l w s) z w
  at_hand z w s h = hand-frame l.classes s.held s.known z w h

  pub framed-done : {A : Type 0} (o : Op A) → Framed (done l o)
  framed-done hand z w s h = let e = at_hand z w s h in cc
  framed-done (so way) z w s h =
      let r = reader_so l way in
      let x = hand_of l z s in
      let e = at_hand z w s (same_in-first (hand_asks_of l z s) _ z w h) in
      let t = token-same r (moved x.gap z) (moved x.gap w) (same_in-second (hand_asks_of l z s) _ z w h).0 in
      cc
  framed-done further z w s h =
      let r = token l.classes s.reading.mode in
      let x = hand_of l z s in
      let at = x.gap + x.len in
      let e = at_hand z w s (same_in-first (hand_asks_of l z s) _ z w h) in
      let t = token-same r (moved at z) (moved at w) (same_in-second (hand_asks_of l z s) _ z w h).0 in
      cc
  framed-done column z w s h =
      let x = hand_of l z s in
      let e = at_hand z w s (same_in-first (hand_asks_of l z s) _ z w h) in
      let c = column-same (moved x.gap z) (moved x.gap w) (same_in-second (hand_asks_of l z s) _ z w h).0 in
      cc
  framed-done erred z w s h = refl
  framed-done (takes trims making) z w s h = grind (arith, hand_of l z s, at_hand z w s h)
  framed-done (takes_so way making) z w s h =
      let k = l.classes in
      let r = reader_so l way in
      let x = hand_of l z s in
      let u = moved x.gap z in
      let v = moved x.gap w in
      let asks = hand_asks_of l z s in
      let e = at_hand z w s (same_in-first asks _ z w h) in
      let t = token-same r u v (same_in-second asks _ z w h).0 in
      cc
  framed-done flushes z w s h = let e = at_hand z w s h in cc
  framed-done (complains message) z w s h = refl
  framed-done (advises hint) z w s h = refl
  framed-done (marks mark) z w s h = refl
  framed-done is_deepest z w s h = refl

  module _ (d : (c : Call) → Within (l.deeper c)) (e : (b : Block) → Within (l.blocks b)) (f : (c : Call) → Framed (l.deeper c)) (k : (b : Block) → Framed (l.blocks b)) where
    -- the law of the frame
    pub framed-run : {A : Type 0} (p : Parser A) → Framed (run l p)
    unfolding run
    framed-run (gives a) z w s h = refl
    framed-run (does o) z w s h = framed-done o z w s h
    framed-run (next p g) z w s h = framed-followed (run l p) (λ b. run l (g b)) (framed-run p) (λ b. framed-run (g b)) z w s h
    framed-run (pick b p q) z w s h = either-framed b _ _ _ _ z w h (framed-run p z w s) (framed-run q z w s)
    framed-run (repeat p x) z w s h = framed-repeated (λ y. run l (p y)) (λ y. within-run l d e (p y)) (λ y. framed-run (p y)) x z w s h
    framed-run (wraps g begin p) z w s h = ap (wrapped g (before begin s)) (framed-run p z w s h)
    framed-run (grows begin p g) z w s h =
        framed-growing (λ y. run l (g y)) (run l p) (before begin) (λ y. within-run l d e (g y)) (within-run l d e p) (λ y. framed-run (g y)) (framed-run p) z w s h
    framed-run (nests g begin p x) z w s h = framed-nesting g begin (λ y. run l (p y)) (λ y. within-run l d e (p y)) (λ y. framed-run (p y)) x z w s h
    framed-run (scoped g p) z w s h = ap (left_to s.reading) (framed-run p z w (entered (g s.reading) s) h)
    framed-run (either p is_wrong q) z w s h = framed-chosen is_wrong (run l p) (run l q) (framed-run p) (framed-run q) z w s h
    framed-run (calls c) z w s h = ap deeper_by_one (f c z w s (same_in-sunk _ z w h))
    framed-run (block b) z w s h =
        either-framed (l.has b) _ _ (plain tt s) (plain tt s) z w h
        (framed-followed (done l flushes) (λ _. bounded b (l.blocks b)) (framed-done flushes) (λ _. framed-bounded b (l.blocks b) (k b)) z w s) (λ j. refl)
