-- After a parser the reading is the one before it, and the token at hand is read in it or as before.
use Rattle.typst_language.proofs.Cited.{◌≡◌, ◌⊎◌, inl, inr, ℕ, zero, suc, Bool, true, false, ◌&&◌, if◌then◌else◌, nat_lt, List, [], ◌∷◌, Option, refl, ap, ◌∙◌, arith, Place, moved, on, Block, Call, Reading, Point, Shape, after_node, after_shape, Op, Begin, Parser, hand, so, further, column, erred, takes, takes_so, flushes, complains, advises, marks, is_deepest, gives, does, next, pick, repeat, wraps, grows, nests, scoped, either, calls, block, Hand, Ask, Outcome, Meaning, Level, joined, answered, turns, as_last, bound, repeated, before, inside, grown, is_more, growths, growing, nestings, nesting, given_up, entered, left, hand_of, hand_asks_of, gave, taken_node, done, run}
use Rattle.typst_lexer.specs.Tree.{Tree}
use Rattle.typst_language.proofs.Within.{grew}

pub record Rests (r h : Reading) (s : Point) : Type 0 where
  pub reading : s.reading ≡ r
  pub mode : (s.held.mode ≡ h.mode) ⊎ (s.held.mode ≡ r.mode)
  pub rule : (s.held.at_newline ≡ h.at_newline) ⊎ (s.held.at_newline ≡ r.at_newline)

abbrev pub Restful : {A : Type 0} → Meaning A → Type 0
Restful m = (z : Place) (s : Point) → Rests s.reading s.held (m z s).state

rests-same : (s : Point) → Rests s.reading s.held s
rests-same s = record { reading = refl; mode = inl refl; rule = inl refl }

through : {A : Type 0} (x y q h r : A) → (y ≡ h) ⊎ (y ≡ r) → q ≡ r → (x ≡ y) ⊎ (x ≡ q) → (x ≡ h) ⊎ (x ≡ r)
through x y q h r a e b = elim b [ inl f ↦ (elim a [ inl g ↦ inl (f ∙ g) | inr g ↦ inr (f ∙ g) ]) | inr f ↦ inr (f ∙ e) ]

rests-then : (r h : Reading) (s t : Point) → Rests r h s → Rests s.reading s.held t → Rests r h t
rests-then r h s t a b = grind arith

-- two states that are read alike
record Alike (s t : Point) : Type 0 where
  reading : t.reading ≡ s.reading
  held : t.held ≡ s.held

rests-like : (r h : Reading) (s t : Point) → Rests r h s → Alike s t → Rests r h t
rests-like r h s t a b = grind arith

like-node : (b : Bool) (text : List ℕ) (s : Point) → Alike s (after_node b text s)
like-node true text s = record { reading = refl; held = refl }
like-node false text s = record { reading = refl; held = refl }

like-if : (b : Bool) (s t : Point) → Alike s t → Alike s (if b then s else t)
like-if true s t a = record { reading = refl; held = refl }
like-if false s t a = a

like-shape : (shape : Shape) (ts : List Tree) (s : Point) → Alike s (after_shape shape ts s)
like-shape shape ts s = grind (arith, like-if, like-node)

like-flushed : (s : Point) (ts : List Tree) → Alike s (elim ts as (λ _. Point) [ [] ↦ s | u ∷ us ↦ after_node false [] s ])
like-flushed s ts = grind arith

-- ---- leaving a reading

-- after a part that was read so
rests-left : (f r h : Reading) (s : Point) → Rests f h s → Rests r h (left r s)
rests-left f r h s a = grind arith

-- ---- the law

rests-turns : {A : Type 0} (m : A → Meaning (Bool × A)) → ((x : A) → Restful (m x)) → (n : ℕ) (x : A) → Restful (turns m n x)
rests-turns m h zero x z s = rests-same s
rests-turns m h (suc n) x z s =
    let o = m x z s in
    on (λ u. Rests s.reading s.held u.state) (o.value.0 && nat_lt 0 o.taken) (joined o (turns m n o.value.1 (moved o.taken z) o.state)) (as_last o)
    (rests-then s.reading s.held o.state (turns m n o.value.1 (moved o.taken z) o.state).state (h x z s) (rests-turns m h n o.value.1 (moved o.taken z) o.state))
    (h x z s)

-- the rest holds after what grew
rests-grown : {A : Type 0} (r h : Reading) (n : ℕ) (shape : Option Shape) (o : Outcome A) → Rests r h o.state → Rests r h (grown n shape o).state
rests-grown r h n shape o a = grind (arith, rests-like, like-shape)

rests-growths : {A : Type 0} (m : A → Meaning (Option Shape × A)) → ((x : A) → Restful (m x)) → (r h : Reading) (n k : ℕ) (o : Outcome A) (z : Place) → Rests r h o.state → Rests r h (growths m n k o z).state
rests-growths m f r h n zero o z a = a
rests-growths m f r h n (suc k) o z a =
    let p = m o.value (moved o.taken z) o.state in
    let b = rests-grown r h n p.value.0 (answered p.value.1 (joined o p)) (rests-then r h o.state p.state a (f o.value (moved o.taken z) o.state)) in
    on (λ u. Rests r h u.state) (is_more p.value.0 && nat_lt 0 p.taken) (growths m n k (grew n o p) z) (grew n o p) (rests-growths m f r h n k (grew n o p) z b) b

rests-nestings : {A : Type 0} (f : A → Shape) (begin : Begin) (m : A → Meaning (Bool × A)) → ((x : A) → Restful (m x)) → (n : ℕ) (x : A) → Restful (nestings f begin m n x)
rests-nestings f begin m h zero x z s = rests-same s
rests-nestings f begin m h (suc n) x z s =
    let o = m x z s in
    let p = nestings f begin m n o.value.1 (moved o.taken z) o.state in
    let b = o.value.0 && nat_lt 0 o.taken in
    let q = if b then joined o p else as_last o in
    rests-like s.reading s.held q.state (after_shape (f q.value) (inside (before begin s) q) q.state)
    (on (λ u. Rests s.reading s.held u.state) b (joined o p) (as_last o) (rests-then s.reading s.held o.state p.state (h x z s) (rests-nestings f begin m h n o.value.1 (moved o.taken z) o.state)) (h x z s))
    (like-shape (f q.value) (inside (before begin s) q) q.state)

module _ (l : Level) where
  rests-gave : (h : Hand) (trims : Bool) (len : ℕ) (node : Tree) (asks : List Ask) (s : Point) → Rests s.reading s.held (gave h trims len node asks s).state
  rests-gave h trims len node asks s = grind arith

  rests-done : {A : Type 0} (o : Op A) → Restful (done l o)
  rests-done hand z s = record { reading = refl; mode = inl refl; rule = inl refl }
  rests-done (so way) z s = record { reading = refl; mode = inl refl; rule = inl refl }
  rests-done further z s = record { reading = refl; mode = inl refl; rule = inl refl }
  rests-done column z s = record { reading = refl; mode = inl refl; rule = inl refl }
  rests-done erred z s = rests-same s
  rests-done (takes trims making) z s = let h = hand_of l z s in rests-gave h trims h.len (taken_node l.classes making h z) (hand_asks_of l z s) s
  rests-done (takes_so way making) z s = grind arith
  rests-done flushes z s = let a = like-flushed s (hand_of l z s).trivia in record { reading = a.reading; mode = inl (ap (λ (x : Reading). x.mode) a.held); rule = inl (ap (λ (x : Reading). x.at_newline) a.held) }
  rests-done (complains message) z s = record { reading = refl; mode = inl refl; rule = inl refl }
  rests-done (advises hint) z s = rests-same s
  rests-done (marks mark) z s = rests-same s
  rests-done is_deepest z s = rests-same s

  module _ (d : (c : Call) → Restful (l.deeper c)) (e : (b : Block) → Restful (l.blocks b)) where
    pub rests-run : {A : Type 0} (p : Parser A) → Restful (run l p)
    unfolding run repeated growing nesting
    rests-run (gives a) z s = rests-same s
    rests-run (does o) z s = rests-done o z s
    rests-run (next p f) z s =
        let o = run l p z s in
        rests-then s.reading s.held o.state (run l (f o.value) (moved o.taken z) o.state).state (rests-run p z s) (rests-run (f o.value) (moved o.taken z) o.state)
    rests-run (pick b p q) z s = on (λ o. Rests s.reading s.held o.state) b (run l p z s) (run l q z s) (rests-run p z s) (rests-run q z s)
    rests-run (repeat p x) z s = rests-turns (λ y. run l (p y)) (λ y. rests-run (p y)) (suc (bound z s)) x z s
    rests-run (wraps f begin p) z s =
        let o = run l p z s in
        rests-like s.reading s.held o.state (after_shape (f o.value) (inside (before begin s) o) o.state) (rests-run p z s) (like-shape (f o.value) (inside (before begin s) o) o.state)
    rests-run (grows begin p f) z s = rests-growths (λ y. run l (f y)) (λ y. rests-run (f y)) s.reading s.held (before begin s) (suc (bound z s)) (run l p z s) z (rests-run p z s)
    rests-run (nests f begin p x) z s = rests-nestings f begin (λ y. run l (p y)) (λ y. rests-run (p y)) (suc (bound z s)) x z s
    rests-run (scoped f p) z s = rests-left (f s.reading) s.reading s.held (run l p z (entered (f s.reading) s)).state (rests-run p z (entered (f s.reading) s))
    rests-run (either p is_wrong q) z s =
        let o = run l p z s in
        on (λ u. Rests s.reading s.held u.state) (is_wrong o.value) (given_up o (run l q z s)) o (rests-run q z s) (rests-run p z s)
    rests-run (calls c) z s = d c z s
    rests-run (block b) z s = grind arith
