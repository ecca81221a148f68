-- Each look is at a place of the text, or at its end.
use Rattle.typst_edits.proofs.Cited.{ℕ, zero, suc, ◌+◌, ◌≤◌, max, false, List, [], ◌∷◌, ◌++◌, length, Option, ap, arith, SyntaxMode, Place, moved, CharClasses, look, Block, Call, Reading, Ask, shift, sunk, looked, marked, len_at, at_trivia, asks_by, ahead_asks, ahead_of, ahead_asks_of, asks_column, column_look, hand_at, hand_asks, Rules, meaning_of, level_of, blocks_of, Trivia, Point, gap_of, forgot, itself, peek, Op, Parser, ◌>>◌, hand, so, further, column, erred, takes, takes_so, flushes, complains, advises, marks, is_deepest, does, Outcome, Meaning, Level, bound, inside, bounded, blockless, same_mode, hand_of, hand_asks_of, done, run, Within, Sane, sane-run, sane-meaning, sane-block, sane-plain, ahead-left, moved-sum, shape-known, on_both}
use Rattle.typst_edits.proofs.Traversal.{Parts, all-run}
use Rattle.typst_edits.proofs.Looks.{OfLooks, looks-both, looks-by, looks-only, looks-shifted}

-- Each look is at most a given number of characters further on.
abbrev pub AllAt : ℕ → List Ask → Type 0
AllAt n [] = Unit {0}
AllAt n (looked at look ∷ asks) = (at ≤ n) × AllAt n asks
AllAt n (marked at gap fewer mark s ∷ asks) = AllAt n asks

abbrev pub at-most : (n : ℕ) → OfLooks (AllAt n)
at-most n = record { P = λ at look. at ≤ n; none = tt; put = λ at look ls p h. (p, h); own = λ at look ls h. h.0; rest = λ at look ls h. h.1; note = λ at gap fewer m s ls h. h; past = λ at gap fewer m s ls h. h }

pub at-shift : (d m n : ℕ) (ls : List Ask) → d + m ≤ n → AllAt m ls → AllAt n (shift d ls)
at-shift d m n ls e h = looks-by (at-most m) (looks-shifted (at-most n) d) (λ at look p. omega (arith, e, p)) ls h

at-more : (m n : ℕ) (ls : List Ask) → m ≤ n → AllAt m ls → AllAt n ls
at-more m n ls e h = looks-by (at-most m) (at-most n) (λ at look p. omega (arith, e, p)) ls h

at-sunk : (n : ℕ) (ls : List Ask) → AllAt n ls → AllAt n (sunk ls)
at-sunk n [] h = tt
at-sunk n (looked at look ∷ ls) h = (h.0, at-sunk n ls h.1)
at-sunk n (marked at gap fewer mark s ∷ ls) h = at-sunk n ls h

-- ---- the token at hand

trivia-within : (k : CharClasses) (m : SyntaxMode) (n : ℕ) (z : Place) → AllAt (length z.ahead) (asks_by k m n z)
trivia-within k m zero z = (omega arith, tt)
trivia-within k m (suc n) z =
    let l = len_at k m z in
    let left = ahead-left l z in
    (omega arith, on_both (λ (us : List Ask). AllAt (length z.ahead) us) (at_trivia k m z) _ [] (at-shift l (length (moved l z).ahead) (length z.ahead) (asks_by k m n (moved l z)) (omega (arith, left)) (trivia-within k m n (moved l z))) tt)

ahead-within : (k : CharClasses) (m : SyntaxMode) (known : Option Trivia) (z : Place) → AllAt (max (gap_of known) (length z.ahead)) (ahead_asks_of k m known z)
unfolding ahead_asks
ahead-within k m known z = grind (arith, at-more, trivia-within)

hand-within : (k : CharClasses) (held : Reading) (known : Option Trivia) (z : Place) → (hand_at k held known z).gap ≤ max (gap_of known) (length z.ahead) → AllAt (max (gap_of known) (length z.ahead)) (hand_asks k held known z)
unfolding hand_at hand_asks
hand-within k held known z h =
    let a = ahead_of k held.mode known z in
    looks-both (at-most _) (ahead_asks_of k held.mode known z) _ (ahead-within k held.mode known z) (on_both (λ (us : List Ask). AllAt (max (gap_of known) (length z.ahead)) us) (asks_column held a.newlines) (looked a.gap (column_look (moved a.gap z)) ∷ []) [] (h, tt) tt)

-- ---- whatever the language can say

-- No look is further on than the text's end.
abbrev pub Inbound : {A : Type 0} → Meaning A → Type 0
Inbound m = (z : Place) (s : Point) → AllAt (bound z s) (m z s).asks

-- What is taken ends in the text, or with known trivia, and no look is further on.
abbrev Inside : (A : Type 0) → Place → Point → Outcome A → Type 0
Inside A z s o = (o.taken + bound (moved o.taken z) o.state ≤ bound z s) × AllAt (bound z s) o.asks

inside-parts : Parts Inside
inside-parts = record {
  nothing = λ A z s a. (omega arith, tt);
  both = λ A B z s o p h k. (omega (arith, h.0, k.0, ap (λ (w : Place). length w.ahead) (moved-sum o.taken p.taken z)), looks-both (at-most (bound z s)) o.asks _ h.1 (at-shift o.taken (bound (moved o.taken z) o.state) (bound z s) p.asks h.0 k.1));
  answer = λ A B z s b o h. h;
  in_shape = λ A z s shape n o h. (omega (arith, h.0, ap gap_of (shape-known shape (inside n o) o.state)), h.1);
  in_scope = λ A z s r o h. (let l = h.0 in on_both (λ (t : Point). o.taken + bound (moved o.taken z) t ≤ bound z s) (same_mode o.state.reading.mode s.reading.mode) _ _ l (omega (arith, l)), h.1);
  instead = λ A z s o p h k. (k.0, looks-only (at-most (bound z s)) (o.asks ++ p.asks) (looks-both (at-most (bound z s)) o.asks p.asks h.1 k.1));
}

module _ (l : Level) (d : (c : Call) → Sane (l.deeper c)) (e : (b : Block) → Sane (l.blocks b)) where
  w-run : {A : Type 0} (p : Parser A) → Within (run l p)
  w-run p = (sane-run l d e p).within

  gap-within : (z : Place) (s : Point) → (hand_of l z s).gap ≤ bound z s
  unfolding run
  gap-within z s = let w = w-run (does flushes) z s in omega (arith, w)

  len-within : (z : Place) (s : Point) → (hand_of l z s).gap + (hand_of l z s).len ≤ bound z s
  unfolding run
  len-within z s = let w = w-run (does (takes false itself)) z s in omega (arith, w)

  in-hand : (z : Place) (s : Point) → AllAt (bound z s) (hand_asks_of l z s)
  in-hand z s = hand-within l.classes s.held s.known z (gap-within z s)

  in-done : {A : Type 0} (o : Op A) → Inbound (done l o)
  in-done hand z s = in-hand z s
  in-done (so way) z s = looks-both (at-most _) (hand_asks_of l z s) _ (in-hand z s) (gap-within z s, tt)
  in-done further z s = looks-both (at-most _) (hand_asks_of l z s) _ (in-hand z s) (len-within z s, tt)
  in-done column z s = looks-both (at-most _) (hand_asks_of l z s) _ (in-hand z s) (gap-within z s, tt)
  in-done erred z s = tt
  in-done (takes trims making) z s = in-hand z s
  in-done (takes_so way making) z s = looks-both (at-most _) (hand_asks_of l z s) _ (in-hand z s) (gap-within z s, tt)
  in-done flushes z s = in-hand z s
  in-done (complains message) z s = tt
  in-done (advises hint) z s = tt
  in-done (marks mark) z s = tt
  in-done is_deepest z s = tt

  module _ (i : (c : Call) → Inbound (l.deeper c)) (j : (b : Block) → Inbound (l.blocks b)) where
    in-bounded : (b : Block) → Inbound (bounded b (l.blocks b))
    in-bounded b z s = looks-both (at-most _) (l.blocks b z (forgot s)).asks _ (at-more (bound z (forgot s)) (bound z s) (l.blocks b z (forgot s)).asks (omega arith) (j b z (forgot s))) tt

    pub in-run : {A : Type 0} (p : Parser A) → Inbound (run l p)
    unfolding run
    in-run p z s =
        (all-run Inside inside-parts l (λ A o y t. (w-run (does o) y t, in-done o y t)) (λ c y t. ((d c).within y t, at-sunk (bound y t) (l.deeper c y t).asks (i c y t)))
        (λ b y t. (let w = (e b).within y (forgot t) in omega (arith, w), in-bounded b y t)) p z s).1

-- ---- by any rules, at every level

module _ (r : Rules) (k : CharClasses) where
  in-block : (levels : ℕ) → ((call : Call) → Inbound (meaning_of r k levels call)) → (b : Block) → Inbound (blocks_of r k levels (meaning_of r k levels) b)
  in-block levels i b = in-run (blockless k levels (meaning_of r k levels)) (sane-meaning r k levels) (λ c. sane-plain tt) i (λ c z s. tt) (peek >> r.block_production b)

  pub in-meaning : (levels : ℕ) (call : Call) → Inbound (meaning_of r k levels call)
  unfolding meaning_of
  in-meaning zero call z s = tt
  in-meaning (suc levels) call z s = in-run (level_of r k levels) (sane-meaning r k levels) (sane-block r k levels) (in-meaning levels) (in-block levels (in-meaning levels)) (r.production call) z s

  -- No look of a parser is further on than the text's end.
  pub in-level : {A : Type 0} (levels : ℕ) (p : Parser A) → Inbound (run (level_of r k levels) p)
  in-level levels p = in-run (level_of r k levels) (sane-meaning r k levels) (sane-block r k levels) (in-meaning levels) (in-block levels (in-meaning levels)) p
