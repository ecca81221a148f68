-- Whatever is taken was looked at, and the token of each note before the note: they end where the looks end, or before.
use Rattle.typst_edits.proofs.Cited.{◌≡◌, ℕ, zero, suc, ◌+◌, ◌-◌, ◌≤◌, Bool, true, false, if◌then◌else◌, List, [], ◌∷◌, ◌++◌, length, Option, Some, None, ap, arith, SyntaxMode, Place, moved, CharClasses, look, Block, Call, Reading, Ask, shift, sunk, only_looks, looked, marked, Ahead, len_at, at_trivia, ahead_by, asks_by, ahead_asks, ahead, hand_at, hand_asks, Rules, meaning_of, level_of, blocks_of, Trivia, Point, gap_of, forgot, peek, token, Op, Parser, ◌>>◌, hand, so, further, column, erred, takes, takes_so, flushes, complains, advises, marks, is_deepest, Outcome, Meaning, Level, plain, joined, inside, bounded, blockless, same_mode, hand_of, hand_asks_of, done, run, reader_so, on_both, shape-known, AllEndBy, AllNotedBy, len-covers}
use Rattle.typst_edits.proofs.Bytes.{AllMarks, none-hand}
use Rattle.typst_edits.proofs.Traversal.{Parts, all-run}
use Rattle.typst_edits.proofs.Looks.{ending, looks-by, looks-first, looks-second, looks-shifted, only-looks}

-- ---- lists of asks

pub end-shift : (d m n : ℕ) (ls : List Ask) → n ≤ d + m → AllEndBy n (shift d ls) → AllEndBy m ls
end-shift d m n ls e h = looks-by (looks-shifted (ending n) d) (ending m) (λ at look p. omega (arith, e, p)) ls h

end-sunk : (n : ℕ) (ls : List Ask) → AllEndBy n (sunk ls) → AllEndBy n ls
end-sunk n [] h = tt
end-sunk n (looked at look ∷ ls) h = (h.0, end-sunk n ls h.1)
end-sunk n (marked at gap fewer mark s ∷ ls) h = end-sunk n ls h

-- The token of each note begins a given number of characters further on, or earlier, if all looks before the note end there, or earlier.
abbrev pub AllSeen : ℕ → List Ask → Type 0
AllSeen n [] = Unit {0}
AllSeen n (looked at look ∷ asks) = at + look.front ≤ n → AllSeen n asks
AllSeen n (marked at gap fewer m s ∷ asks) = (at + gap ≤ n) × AllSeen n asks

seen-append : (n : ℕ) (ls ks : List Ask) → AllSeen n ls → (AllEndBy n ls → AllSeen n ks) → AllSeen n (ls ++ ks)
seen-append n [] ks h k = k tt
seen-append n (looked at look ∷ ls) ks h k = λ e. seen-append n ls ks (h e) (λ f. k (e, f))
seen-append n (marked at gap fewer m s ∷ ls) ks h k = (h.0, seen-append n ls ks h.1 k)

-- up to any of them
pub seen-first : (n : ℕ) (ls ks : List Ask) → AllSeen n (ls ++ ks) → AllEndBy n ls → AllNotedBy n ls
seen-first n [] ks h e = tt
seen-first n (looked at look ∷ ls) ks h e = seen-first n ls ks (h e.0) e.1
seen-first n (marked at gap fewer m s ∷ ls) ks h e = (h.0, seen-first n ls ks h.1 e)

seen-shift : (d m n : ℕ) (ls : List Ask) → d + m ≡ n → AllSeen m ls → AllSeen n (shift d ls)
seen-shift d m n [] e h = tt
seen-shift d m n (looked at look ∷ ls) e h = λ f. seen-shift d m n ls e (h (omega (arith, e, f)))
seen-shift d m n (marked at gap fewer mark s ∷ ls) e h = (omega (arith, e, h.0), seen-shift d m n ls e h.1)

seen-sunk : (n : ℕ) (ls : List Ask) → AllSeen n ls → AllSeen n (sunk ls)
seen-sunk n [] h = tt
seen-sunk n (looked at look ∷ ls) h = λ e. seen-sunk n ls (h e)
seen-sunk n (marked at gap fewer mark s ∷ ls) h = (h.0, seen-sunk n ls h.1)

seen-only : (n : ℕ) (ls : List Ask) → AllSeen n (only_looks ls)
seen-only n [] = tt
seen-only n (looked at look ∷ ls) = λ e. seen-only n ls
seen-only n (marked at gap fewer mark s ∷ ls) = seen-only n ls

seen-none : (n : ℕ) (ls : List Ask) → AllMarks (λ at fewer m s. ⊥) ls → AllSeen n ls
seen-none n [] h = tt
seen-none n (looked at look ∷ ls) h = λ e. seen-none n ls h
seen-none n (marked at gap fewer mark s ∷ ls) h = absurd h.0

-- ---- the token at hand

seen-if : (b : Bool) (n : ℕ) (asks : List Ask) (a c : Ahead) → (AllEndBy n asks → a.gap + a.len ≤ n) → c.gap + c.len ≤ n → AllEndBy n (if b then asks else []) → (if b then a else c).gap + (if b then a else c).len ≤ n
seen-if true n asks a c f g h = f h
seen-if false n asks a c f g h = g

ahead-seen : (k : CharClasses) (m : SyntaxMode) (i n : ℕ) (z : Place) → AllEndBy n (asks_by k m i z) → (ahead_by k m i z).gap + (ahead_by k m i z).len ≤ n
ahead-seen k m zero n z h = omega (arith, h.0, len-covers (token k m) z)
ahead-seen k m (suc i) n z h =
    let l = len_at k m z in
    let own : l ≤ n = omega (arith, h.0, len-covers (token k m) z) in
    seen-if (at_trivia k m z) n (shift l (asks_by k m i (moved l z))) _ _
    (λ e. let i = ahead-seen k m i (n - l) (moved l z) (end-shift l (n - l) n (asks_by k m i (moved l z)) (omega arith) e) in omega (arith, i, own)) (omega (arith, own)) h.1

-- What is known of the trivia, and the token, end where the looks at them end, or before.
hand-seen : (k : CharClasses) (held : Reading) (known : Option Trivia) (z : Place) (n : ℕ) → gap_of known ≤ n → AllEndBy n (hand_asks k held known z) → (hand_at k held known z).gap + (hand_at k held known z).len ≤ n
unfolding hand_at hand_asks ahead ahead_asks
hand-seen k held None z n g h = ahead-seen k held.mode (length z.ahead) n z (looks-first (ending n) (asks_by k held.mode (length z.ahead) z) _ h)
hand-seen k held (Some t) z n g h = omega (arith, h.0, len-covers (token k held.mode) (moved t.gap z))

-- ---- whatever the language can say

-- The tokens of notes, and what is taken with what is known after it, end a given number of characters further on, or earlier.
pub record Seen {A : Type 0} (n : ℕ) (o : Outcome A) : Type 0 where
  pub noted : AllSeen n o.asks
  pub ends : AllEndBy n o.asks → o.taken + gap_of o.state.known ≤ n

abbrev pub Sees : {A : Type 0} → Meaning A → Type 0
Sees m = (z : Place) (s : Point) (n : ℕ) → gap_of s.known ≤ n → Seen n (m z s)

pub sees-plain : {A : Type 0} (a : A) → Sees (λ z s. plain a s)
sees-plain a z s n g = record { noted = tt; ends = λ e. omega (arith, g) }

seen-joined : {A B : Type 0} (n : ℕ) (o : Outcome B) (p : Outcome A) → Seen n o → ((m : ℕ) → gap_of o.state.known ≤ m → Seen m p) → Seen n (joined o p)
seen-joined n o p a k = record {
  noted = seen-append n o.asks (shift o.taken p.asks) a.noted (λ e. (let l = a.ends e in seen-shift o.taken (n - o.taken) n p.asks (omega (arith, l)) (k (n - o.taken) (omega (arith, l))).noted));
  ends = λ e. (let l = a.ends (looks-first (ending n) o.asks (shift o.taken p.asks) e) in omega (arith, l, (k (n - o.taken) (omega (arith, l))).ends (end-shift o.taken (n - o.taken) n p.asks (omega arith) (looks-second (ending n) o.asks (shift o.taken p.asks) e))));
}

abbrev SeenBy : (A : Type 0) → Place → Point → Outcome A → Type 0
SeenBy A z s o = (n : ℕ) → gap_of s.known ≤ n → Seen n o

seen : Parts SeenBy
seen = record {
  nothing = λ A z s a n g. sees-plain a z s n g;
  both = λ A B z s o p h k n g. seen-joined n o p (h n g) k;
  answer = λ A B z s b o h n g. record { noted = (h n g).noted; ends = (h n g).ends };
  in_shape = λ A z s shape i o h n g. record { noted = (h n g).noted; ends = λ e. omega (arith, (h n g).ends e, ap gap_of (shape-known shape (inside i o) o.state)) };
  in_scope = λ A z s r o h n g. record { noted = (h n g).noted; ends = λ e. (let l = (h n g).ends e in on_both (λ (t : Point). o.taken + gap_of t.known ≤ n) (same_mode o.state.reading.mode s.reading.mode) _ _ l (omega (arith, l))) };
  instead = λ A z s o p h k n g. record { noted = seen-only n (o.asks ++ p.asks); ends = λ e. (k n g).ends (looks-second (ending n) o.asks p.asks (only-looks (ending n) (o.asks ++ p.asks) e)) };
}

module _ (l : Level) where
  sees-hand : (z : Place) (s : Point) (n : ℕ) → gap_of s.known ≤ n → AllEndBy n (hand_asks_of l z s) → (hand_of l z s).gap + (hand_of l z s).len ≤ n
  sees-hand z s n g e = hand-seen l.classes s.held s.known z n g e

  notes-none : (z : Place) (s : Point) (n : ℕ) → AllSeen n (hand_asks_of l z s)
  notes-none z s n = seen-none n (hand_asks_of l z s) (none-hand (λ at fewer m t. ⊥) l.classes s.held s.known z)

  sees-trivia : (z : Place) (s : Point) (n : ℕ) → gap_of s.known ≤ n → AllEndBy n (hand_asks_of l z s) → (hand_of l z s).gap ≤ n
  sees-trivia z s n g e = omega (arith, sees-hand z s n g e)

  -- and another look after it
  more-notes : (z : Place) (s : Point) (n at : ℕ) (look : _) → AllSeen n (hand_asks_of l z s ++ looked at look ∷ [])
  more-notes z s n at look = seen-append n (hand_asks_of l z s) (looked at look ∷ []) (notes-none z s n) (λ e f. tt)

  more-ends : (z : Place) (s : Point) (n at : ℕ) (look : _) → gap_of s.known ≤ n → AllEndBy n (hand_asks_of l z s ++ looked at look ∷ []) → (hand_of l z s).gap ≤ n
  more-ends z s n at look g e = sees-trivia z s n g (looks-first (ending n) (hand_asks_of l z s) (looked at look ∷ []) e)

  sees-done : {A : Type 0} (o : Op A) → Sees (done l o)
  sees-done hand z s n g = record { noted = notes-none z s n; ends = λ e. omega (arith, sees-trivia z s n g e) }
  sees-done (so way) z s n g = record { noted = more-notes z s n _ _; ends = λ e. omega (arith, more-ends z s n _ _ g e) }
  sees-done further z s n g = record { noted = more-notes z s n _ _; ends = λ e. omega (arith, more-ends z s n _ _ g e) }
  sees-done column z s n g = record { noted = more-notes z s n _ _; ends = λ e. omega (arith, more-ends z s n _ _ g e) }
  sees-done erred z s n g = record { noted = tt; ends = λ e. omega (arith, g) }
  sees-done (takes trims making) z s n g = record { noted = notes-none z s n; ends = λ e. omega (arith, sees-hand z s n g e) }
  sees-done (takes_so way making) z s n g = record { noted = more-notes z s n _ _; ends = λ e. (let h = hand_of l z s in let w = moved h.gap z in omega (arith, (looks-second (ending n) (hand_asks_of l z s) (looked h.gap (look (reader_so l way) w) ∷ []) e).0, len-covers (reader_so l way) w)) }
  sees-done flushes z s n g = record { noted = notes-none z s n; ends = λ e. omega (arith, sees-trivia z s n g e) }
  sees-done (complains message) z s n g = record { noted = tt; ends = λ e. omega (arith, g) }
  sees-done (advises hint) z s n g = record { noted = tt; ends = λ e. omega (arith, g) }
  sees-done (marks mark) z s n g = record { noted = (omega (arith, g), tt); ends = λ e. omega (arith, g) }
  sees-done is_deepest z s n g = record { noted = tt; ends = λ e. omega (arith, g) }

  module _ (i : (c : Call) → Sees (l.deeper c)) (j : (b : Block) → Sees (l.blocks b)) where
    sees-bounded : (b : Block) → Sees (bounded b (l.blocks b))
    sees-bounded b z s n g =
        let o = l.blocks b z (forgot s) in
        let a = j b z (forgot s) n (omega arith) in
        record { noted = (omega arith, seen-append n o.asks _ a.noted (λ e. (omega (arith, a.ends e), tt))); ends = λ e. omega (arith, a.ends (looks-first (ending n) o.asks _ e)) }

    pub sees-run : {A : Type 0} (p : Parser A) → Sees (run l p)
    sees-run p = all-run SeenBy seen l (λ A o. sees-done o) (λ c z s n g. (let o = l.deeper c z s in let a = i c z s n g in record { noted = seen-sunk n o.asks a.noted; ends = λ e. a.ends (end-sunk n o.asks e) })) sees-bounded p

-- ---- by any rules, at every level

module _ (r : Rules) (k : CharClasses) where
  sees-block : (levels : ℕ) → ((call : Call) → Sees (meaning_of r k levels call)) → (b : Block) → Sees (blocks_of r k levels (meaning_of r k levels) b)
  sees-block levels i b = sees-run (blockless k levels (meaning_of r k levels)) i (λ c. sees-plain tt) (peek >> r.block_production b)

  pub sees-meaning : (levels : ℕ) (call : Call) → Sees (meaning_of r k levels call)
  unfolding meaning_of
  sees-meaning zero call z s n g = record { noted = tt; ends = λ e. omega (arith, g) }
  sees-meaning (suc levels) call z s n g = sees-run (level_of r k levels) (sees-meaning levels) (sees-block levels (sees-meaning levels)) (r.production call) z s n g

  -- of a parser
  pub sees-level : {A : Type 0} (levels : ℕ) (p : Parser A) → Sees (run (level_of r k levels) p)
  sees-level levels p = sees-run (level_of r k levels) (sees-meaning levels) (sees-block levels (sees-meaning levels)) p
