-- Marks don't go back and lie within what is taken, and after one where a block begins the next lies further on.
use Rattle.typst_edits.proofs.Cited.{◌≡◌, ℕ, suc, ◌+◌, ◌≤◌, Bool, true, false, List, [], ◌∷◌, ◌++◌, refl, arith, zero, max, min, length, take, Option, Some, None, ap, sym, ◌∙◌, subst, Place, moved, Block, Call, Mark, State, Ask, shift, sunk, only_looks, looked, marked, Point, state_of, gap_of, forgot, Trivia, Op, Parser, ◌>>◌, ◌>>=◌, hand, so, further, column, erred, takes, takes_so, flushes, complains, advises, marks, is_deepest, gives, does, next, pick, repeat, wraps, grows, nests, scoped, either, calls, block, Outcome, Meaning, Level, plain, joined, bound, repeated, before, growing, nesting, given_up, bounded, entered, hand_asks_of, done, run, wrapped, blockless, start_point, hand_of, asked, on_both, on_if, Guarded, op_notes, CharClasses, width, position, far, near, Note, Reading, meaning_of, level_of, blocks_of, Shape, peek, node, eat, eat_making, ahead-left, moved-sum, rules, production, max_depth, start_of, whole, parsed, log, block_production, markup_reading, content_block, listed, is_end, Hand, token_at, len_at, ahead, hand_at, itself, hand-takes, hand-again, token-ends, token-takes, Sane, sane-run, sane-at, sane-meaning, sane-block, sane-plain, code_block, code_reading, guarded-production, guarded-inside-code, SyntaxMode, at_token, is_opening, Rising, sees, guarded-inside-content, guarded-whole, not-true, some-ahead, ◌<◌}
use Rattle.typst_edits.specs.Rising.{RisingLaw}
use Rattle.typst_edits.proofs.Bytes.{AllMarks, marks-append, marks-shift, none-hand, none_yet, note_by, notes_from, fresh_notes, logged-listed}
use Rattle.typst_edits.proofs.Traversal.{Parts, all-turns, all-growths, all-nestings}
use Rattle.typst_edits.proofs.Widths.{width-moved, width-none, take-width as take-all, take-more, take-behind}
use Rattle.typst_language.specs.declared.calls.Mark.TheVariants as mark
use Rattle.typst_language.specs.declared.calls.Block.TheVariants as block

-- ---- marks that stand in order, from one place up to another, in whatever the language can say

abbrev pub Unmarked : List Ask → Type 0
Unmarked asks = AllMarks (λ at fewer m s. ⊥) asks

pub unmarked-shift : (d : ℕ) (ls : List Ask) → Unmarked ls → Unmarked (shift d ls)
unmarked-shift d ls h = marks-shift (λ at fewer m s. ⊥) d ls h

pub unmarked-joined : {A B : Type 0} (o : Outcome B) (p : Outcome A) → Unmarked o.asks → Unmarked p.asks → Unmarked (joined o p).asks
unmarked-joined o p h k = marks-append (λ at fewer m s. ⊥) o.asks (shift o.taken p.asks) h (unmarked-shift o.taken p.asks k)

pub unmarked-hand : (l : Level) (z : Place) (s : Point) → Unmarked (hand_asks_of l z s)
unmarked-hand l z s = none-hand (λ at fewer m t. ⊥) l.classes s.held s.known z

unmarked-looks : (ls : List Ask) → Unmarked (only_looks ls)
unmarked-looks [] = tt
unmarked-looks (looked at look ∷ ls) = unmarked-looks ls
unmarked-looks (marked at gap fewer m s ∷ ls) = unmarked-looks ls

-- A property of asks from one place up to another holds of parts together, and where nothing is noted.
pub record Joins (Q : ℕ → ℕ → List Ask → Type 0) : Type 0 where
  pub append : (lo mid hi : ℕ) (ls ks : List Ask) → Q lo mid ls → Q mid hi ks → Q lo hi (ls ++ ks)
  pub shifted : (d hi : ℕ) (ls : List Ask) → Q 0 hi ls → Q d (d + hi) (shift d ls)
  pub none : (lo hi : ℕ) (ls : List Ask) → lo ≤ hi → Unmarked ls → Q lo hi ls

pub unmarked : Joins (λ lo hi ls. Unmarked ls)
unmarked = record { append = λ lo mid hi ls ks h k. marks-append (λ at fewer m s. ⊥) ls ks h k; shifted = λ d hi ls h. unmarked-shift d ls h; none = λ lo hi ls e h. h }

module _ (step : ℕ → Mark → ℕ) (P : ℕ → Mark → Type 0) where
  -- The marks stand in order, from one place up to another, each at a given distance after the one before, and a property holds of each.
  abbrev pub Upward : ℕ → ℕ → List Ask → Type 0
  Upward lo hi [] = lo ≤ hi
  Upward lo hi (looked at look ∷ asks) = Upward lo hi asks
  Upward lo hi (marked at gap fewer m s ∷ asks) = (lo ≤ at) × P gap m × Upward (at + step gap m) hi asks

  pub up-low : (a b hi : ℕ) (ls : List Ask) → a ≤ b → Upward b hi ls → Upward a hi ls
  up-low a b hi [] e h = omega (arith, e, h)
  up-low a b hi (looked at look ∷ ls) e h = up-low a b hi ls e h
  up-low a b hi (marked at gap fewer m s ∷ ls) e h = (let low = h.0 in omega (arith, e, low), h.1, h.2)

  pub up-ends : (lo hi : ℕ) (ls : List Ask) → Upward lo hi ls → lo ≤ hi
  up-ends lo hi [] h = h
  up-ends lo hi (looked at look ∷ ls) h = up-ends lo hi ls h
  up-ends lo hi (marked at gap fewer m s ∷ ls) h = let low = h.0 in let i = up-ends (at + step gap m) hi ls h.2 in omega (arith, low, i)

  pub up-append : (lo mid hi : ℕ) (ls ks : List Ask) → Upward lo mid ls → Upward mid hi ks → Upward lo hi (ls ++ ks)
  up-append lo mid hi [] ks h i = up-low lo mid hi ks h i
  up-append lo mid hi (looked at look ∷ ls) ks h i = up-append lo mid hi ls ks h i
  up-append lo mid hi (marked at gap fewer m s ∷ ls) ks h i = (h.0, h.1, up-append (at + step gap m) mid hi ls ks h.2 i)

  -- counted from a given number of characters before
  pub up-shift : (d lo hi : ℕ) (ls : List Ask) → Upward lo hi ls → Upward (d + lo) (d + hi) (shift d ls)
  up-shift d lo hi [] h = omega (arith, h)
  up-shift d lo hi (looked at look ∷ ls) h = up-shift d lo hi ls h
  up-shift d lo hi (marked at gap fewer m s ∷ ls) h = (
    let low = h.0 in omega (arith, low),
    h.1,
    up-low (d + at + step gap m) (d + (at + step gap m)) (d + hi) (shift d ls) (omega arith) (up-shift d (at + step gap m) hi ls h.2),
  )

  pub up-sunk : (lo hi : ℕ) (ls : List Ask) → Upward lo hi ls → Upward lo hi (sunk ls)
  up-sunk lo hi [] h = h
  up-sunk lo hi (looked at look ∷ ls) h = up-sunk lo hi ls h
  up-sunk lo hi (marked at gap fewer m s ∷ ls) h = (h.0, h.1, up-sunk (at + step gap m) hi ls h.2)

  pub up-behind : (lo hi : ℕ) (ls ks : List Ask) → Unmarked ls → Upward lo hi ks → Upward lo hi (ls ++ ks)
  up-behind lo hi [] ks none h = h
  up-behind lo hi (looked at look ∷ ls) ks none h = up-behind lo hi ls ks none h
  up-behind lo hi (marked at gap fewer m s ∷ ls) ks none h = absurd none.0

  pub up-none : (lo hi : ℕ) (ls : List Ask) → lo ≤ hi → Unmarked ls → Upward lo hi ls
  up-none lo hi [] h none = h
  up-none lo hi (looked at look ∷ ls) h none = up-none lo hi ls h none
  up-none lo hi (marked at gap fewer m s ∷ ls) h none = absurd none.0

  -- The first of it stands at a given distance.
  abbrev pub UpFrom : {A : Type 0} → ℕ → Outcome A → Type 0
  UpFrom lo o = Upward lo o.taken o.asks

  pub ups : Joins (λ lo hi ls. Upward lo hi ls)
  ups = record { append = up-append; shifted = λ d hi ls h. up-low d (d + 0) (d + hi) (shift d ls) (omega arith) (up-shift d 0 hi ls h); none = up-none }

  -- after what notes nothing
  pub up-after : {A B : Type 0} (lo : ℕ) (o : Outcome B) (p : Outcome A) → Unmarked o.asks → UpFrom lo p → UpFrom (o.taken + lo) (joined o p)
  up-after lo o p none k = up-behind (o.taken + lo) (o.taken + p.taken) o.asks (shift o.taken p.asks) none (up-shift o.taken lo p.taken p.asks k)

-- ---- whatever the language can say

module _ (Q : ℕ → ℕ → List Ask → Type 0) (joins : Joins Q) where
  abbrev From : {A : Type 0} → ℕ → Outcome A → Type 0
  From lo o = Q lo o.taken o.asks

  pub from-joined : {A B : Type 0} (lo : ℕ) (o : Outcome B) (p : Outcome A) → From lo o → From 0 p → From lo (joined o p)
  from-joined lo o p h k = joins.append lo o.taken (o.taken + p.taken) o.asks _ h (joins.shifted o.taken p.taken p.asks k)

  pub from-looks : (hi : ℕ) (ls : List Ask) → Q 0 hi (only_looks ls)
  from-looks hi ls = joins.none 0 hi (only_looks ls) (omega arith) (unmarked-looks ls)

  abbrev pub Spans : (A : Type 0) → Place → Point → Outcome A → Type 0
  Spans A z s o = From 0 o

  pub from-parts : Parts Spans
  from-parts = record {
    nothing = λ A z s a. joins.none 0 0 [] (omega arith) tt;
    both = λ A B z s o p h k. from-joined 0 o p h k;
    answer = λ A B z s b o h. h;
    in_shape = λ A z s shape n o h. h;
    in_scope = λ A z s r o h. h;
    instead = λ A z s o p h k. from-looks p.taken (o.asks ++ p.asks);
  }

  module _ (l : Level) where
    pub from-hand : (z : Place) (s : Point) (hi : ℕ) → Q 0 hi (hand_asks_of l z s)
    from-hand z s hi = joins.none 0 hi (hand_asks_of l z s) (omega arith) (unmarked-hand l z s)

    from-more : (z : Place) (s : Point) (hi at : ℕ) (look : _) → Q 0 hi (hand_asks_of l z s ++ looked at look ∷ [])
    from-more z s hi at look = joins.append 0 hi hi (hand_asks_of l z s) (looked at look ∷ []) (from-hand z s hi) (joins.none hi hi (looked at look ∷ []) (omega arith) tt)

    module _ (notes : Mark → Bool) (own : (m : Mark) (gap : ℕ) (s : State) → notes m ≡ true → Q 0 0 (marked 0 gap 0 m s ∷ [])) where
      pub from-done : {A : Type 0} (o : Op A) → op_notes notes o ≡ true → (z : Place) (s : Point) → From 0 (done l o z s)
      from-done hand q z s = from-hand z s 0
      from-done (so way) q z s = from-more z s 0 _ _
      from-done further q z s = from-more z s 0 _ _
      from-done column q z s = from-more z s 0 _ _
      from-done erred q z s = joins.none 0 0 [] (omega arith) tt
      from-done (takes trims making) q z s = from-hand z s _
      from-done (takes_so way making) q z s = from-more z s _ _ _
      from-done flushes q z s = from-hand z s _
      from-done (complains message) q z s = joins.none 0 0 [] (omega arith) tt
      from-done (advises hint) q z s = joins.none 0 0 [] (omega arith) tt
      from-done (marks m) q z s = own m (gap_of s.known) (state_of s) q
      from-done is_deepest q z s = joins.none 0 0 [] (omega arith) tt

      -- where a block is read, by what is known there
      module _ (There : Place → Point → Type 0) (there : (B : Type 0) (p : Parser B) (z : Place) (s : Point) → (let o = run l p z s in sees p o.value ≡ true → There (moved o.taken z) o.state))
          (deep : (call : Call) (z : Place) (s : Point) → (let o = l.deeper call z s in Q 0 o.taken (sunk o.asks)))
          (held : (b : Block) → l.has b ≡ true → (z : Place) (s : Point) → There z s → (let o = done l flushes z s in From 0 (bounded b (l.blocks b) (moved o.taken z) o.state))) where
        pub from-run : {A : Type 0} (seen : Bool) (p : Parser A) → Guarded notes seen p → (z : Place) (s : Point) → (seen ≡ true → There z s) → From 0 (run l p z s)
        unfolding run repeated growing nesting
        from-run seen (gives a) q z s t = joins.none 0 0 [] (omega arith) tt
        from-run seen (does o) q z s t = from-done o q z s
        from-run seen (next p f) q z s t =
            let o = run l p z s in
            from-joined 0 o (run l (f o.value) (moved o.taken z) o.state) (from-run seen p q.0 z s t) (from-run (sees p o.value) (f o.value) (q.1 o.value) (moved o.taken z) o.state (there _ p z s))
        from-run seen (pick true p r) q z s t = from-run seen p (q.0 refl) z s t
        from-run seen (pick false p r) q z s t = from-run seen r (q.1 refl) z s t
        from-run seen (repeat p x) q z s t = all-turns Spans from-parts (λ y. run l (p y)) (λ y z s. from-run false (p y) (q y) z s (λ e. absurd (cc))) (suc (bound z s)) x z s
        from-run seen (wraps f begin p) q z s t = from-run false p q z s (λ e. absurd (cc))
        from-run seen (grows begin p f) q z s t = all-growths Spans from-parts (λ y. run l (f y)) (λ y z s. from-run false (f y) (q.1 y) z s (λ e. absurd (cc))) (before begin s) (suc (bound z s)) (run l p z s) z s (from-run false p q.0 z s (λ e. absurd (cc)))
        from-run seen (nests f begin p x) q z s t = all-nestings Spans from-parts f begin (λ y. run l (p y)) (λ y z s. from-run false (p y) (q y) z s (λ e. absurd (cc))) (suc (bound z s)) x z s
        from-run seen (scoped f p) q z s t = from-run false p q z (entered (f s.reading) s) (λ e. absurd (cc))
        from-run seen (either p is_wrong r) q z s t =
            let o = run l p z s in
            let u = run l r z s in
            on_both (From 0) (is_wrong o.value) (given_up o u) o (from-looks u.taken (o.asks ++ u.asks)) (from-run false p q.0 z s (λ e. absurd (cc)))
        from-run seen (calls call) q z s t = deep call z s
        from-run seen (block b) q z s t =
            let o = done l flushes z s in
            let p = bounded b (l.blocks b) (moved o.taken z) o.state in
            on_if (From 0) (l.has b) (joined o p) (plain tt s) (λ has. from-joined 0 o p (from-hand z s o.taken) (held b has z s (t q))) (λ _. joins.none 0 0 [] (omega arith) tt)

-- ---- marks in a list of asks

-- how much is taken at least between a mark and the next one
abbrev pub taken_behind : Mark → ℕ
taken_behind (mark.Opens b) = 1
taken_behind _ = 0

-- The marks stand in order, from one place up to another, and a block begins directly at its token.
abbrev step : ℕ → Mark → ℕ
step gap m = taken_behind m

abbrev direct : ℕ → Mark → Type 0
direct gap m = is_opening m ≡ true → gap ≡ 0

abbrev Rise : ℕ → ℕ → List Ask → Type 0
Rise lo hi ls = Upward step direct lo hi ls

rise : Joins Rise
rise = ups step direct

-- ---- whatever the language can say

-- What is noted stands in order, within what is taken.
abbrev Rises : {A : Type 0} → Meaning A → Type 0
Rises m = (z : Place) (s : Point) → Upward step direct 0 (m z s).taken (m z s).asks

-- The first of it stands at a given distance.
abbrev RiseFrom : {A : Type 0} → ℕ → Outcome A → Type 0
RiseFrom lo o = UpFrom step direct lo o

-- ---- where a token is at hand

-- A character follows the trivia at hand.
abbrev There : Level → Place → Point → Type 0
There l z s = 0 < length (moved (hand_of l z s).gap z).ahead

-- the marks that productions make by themselves
abbrev pub pieces : Mark → Bool
pieces (mark.Piece line brackets) = true
pieces _ = false

rise-mark : (m : Mark) (gap : ℕ) (s : State) → pieces m ≡ true → Rise 0 0 (marked 0 gap 0 m s ∷ [])
rise-mark (mark.Piece line brackets) gap s h = (omega arith, λ e. absurd (cc), omega arith)
rise-mark (mark.Opens b) gap s h = absurd (cc)
rise-mark mark.Closes gap s h = absurd (cc)

module _ (l : Level) (d : (call : Call) → Sane (l.deeper call)) (e : (b : Block) → Sane (l.blocks b)) where
  there-by : (z : Place) (s : Point) (known : Option Trivia) → s.known ≡ known → is_end (hand_of l z s).kind ≡ false → There l z s
  unfolding run hand_at
  there-by z s None same h =
      omega (arith, hand-takes l.classes s.held s.known z h, (sane-run l d e (does (takes false itself))).within z s, ahead-left (hand_of l z s).gap z, ap gap_of same)
  there-by z s (Some t) same h =
      let gap : (hand_of l z s).gap ≡ t.gap = ap (λ k. (hand_at l.classes s.held k z).gap) same in
      omega (arith, hand-takes l.classes s.held s.known z h, (sane-run l d e (does (takes false itself))).within z s, ahead-left (hand_of l z s).gap z, ap gap_of same, gap)

  -- Where a parser saw that a token is at hand there is one.
  sees-there : {A : Type 0} (p : Parser A) (z : Place) (s : Point) → (let o = run l p z s in sees p o.value ≡ true → There l (moved o.taken z) o.state)
  unfolding run
  sees-there (does hand) z s h =
      subst (λ (x : Hand). 0 < length (moved x.gap z).ahead) (sym (hand-again l.classes s.held s.known z)) (there-by z s s.known refl (not-true (is_end (hand_of l z s).kind) h))
  sees-there _ z s h = absurd (cc)

  module _ (i : (call : Call) → Rises (l.deeper call)) (j : (b : Block) → l.has b ≡ true → (z : Place) (s : Point) → 0 < length z.ahead → RiseFrom 1 (l.blocks b z (forgot s))) where
    rise-bounded : (b : Block) → l.has b ≡ true → (z : Place) (s : Point) → 0 < length z.ahead → RiseFrom 0 (bounded b (l.blocks b) z s)
    rise-bounded b has z s some =
        let o = l.blocks b z (forgot s) in
        (omega arith, λ _. refl, up-append step direct 1 o.taken o.taken o.asks _ (j b has z s some) (omega arith, λ _. refl, omega arith))

    rises : {A : Type 0} (p : Parser A) → Guarded pieces false p → Rises (run l p)
    rises p q z s =
        from-run Rise rise l pieces rise-mark (There l) (λ B p. sees-there p) (λ call z s. up-sunk step direct 0 (l.deeper call z s).taken (l.deeper call z s).asks (i call z s))
        (λ b has z s t. let o = done l flushes z s in rise-bounded b has (moved o.taken z) o.state t) false p q z s (λ e. absurd (cc))

    -- What a block reads begins with its token.
    module _ (f : Bool → Shape) (r : Reading) (p : Parser (Unit {0})) (q : Parser Bool) (takes_hand : (z : Place) (s : Point) → (let o = run l p z s in Unmarked o.asks × ((hand_of l z s).gap + (hand_of l z s).len ≤ o.taken))) (rest : Guarded pieces false q) where
      first-stands : (z : Place) (s : Point) → 0 < (hand_of l z s).gap + (hand_of l z s).len → RiseFrom 1 (run l (next p (λ _. q)) z s)
      unfolding run
      first-stands z s some =
          let o = run l p z s in
          let t = takes_hand z s in
          let u = joined o (run l q (moved o.taken z) o.state) in
          up-low step direct 1 (o.taken + 0) u.taken u.asks (omega (arith, some, t.1)) (up-after step direct 0 o (run l q (moved o.taken z) o.state) t.0 (rises q rest (moved o.taken z) o.state))

      node-stands : (z : Place) (s : Point) → 0 < (hand_of l z s).gap + (hand_of l z s).len → RiseFrom 1 (run l (node f (scoped (λ _. r) (next p (λ _. q)))) z s)
      unfolding run node
      node-stands z s some =
          let s1 = asked (hand_of l z s) s in
          let again = hand-again l.classes s.held s.known z in
          let o = run l (scoped (λ _. r) (next p (λ _. q))) z s1 in
          let v = wrapped f (before at_token s1) o in
          up-after step direct 1 (run l peek z s) (joined v (plain o.value v.state)) (unmarked-hand l z s) (from-joined Rise rise 1 v (plain o.value v.state) (first-stands z (entered r s1) (subst (λ (h : Hand). 0 < h.gap + h.len) (sym again) some)) (omega arith))

      pub block-stands : (z : Place) (s : Point) → 0 < (hand_of l z s).gap + (hand_of l z s).len → RiseFrom 1 (run l (peek >> (node f (scoped (λ _. r) (next p (λ _. q))) >>= λ _. gives (tt {0}))) z s)
      unfolding run
      block-stands z s some =
          let s1 = asked (hand_of l z s) s in
          let again = hand-again l.classes s.held s.known z in
          let o = run l (node f (scoped (λ _. r) (next p (λ _. q)))) z s1 in
          up-after step direct 1 (run l peek z s) (joined o (plain (tt {0}) o.state)) (unmarked-hand l z s) (from-joined Rise rise 1 o (plain (tt {0}) o.state) (node-stands z s1 (subst (λ (h : Hand). 0 < h.gap + h.len) (sym again) some)) (omega arith))

    takes-hand : (z : Place) (s : Point) → (let o = run l (does (takes false itself)) z s in Unmarked o.asks × ((hand_of l z s).gap + (hand_of l z s).len ≤ o.taken))
    unfolding run
    takes-hand z s = (unmarked-hand l z s, omega arith)

    eat-hand : (z : Place) (s : Point) → (let o = run l eat z s in Unmarked o.asks × ((hand_of l z s).gap + (hand_of l z s).len ≤ o.taken))
    unfolding run eat eat_making
    eat-hand z s =
        let o = done l (takes false itself) z s in
        let n = run l peek (moved o.taken z) o.state in
        (unmarked-joined o (joined n (plain (tt {0}) n.state)) (unmarked-hand l z s) (unmarked-joined n (plain (tt {0}) n.state) (unmarked-hand l (moved o.taken z) o.state) tt), omega arith)

    -- Each kind of block does.
    pub begins-by-token : (b : Block) (z : Place) (s : Point) → 0 < (hand_of l z s).gap + (hand_of l z s).len → RiseFrom 1 (run l (peek >> block_production b) z s)
    unfolding content_block code_block eat eat_making
    begins-by-token block.Content z s some = block-stands _ markup_reading _ _ takes-hand ((guarded-inside-content pieces false (λ _ _. refl)).1 tt) z s some
    begins-by-token block.Code z s some = block-stands _ code_reading _ _ eat-hand ((guarded-inside-code pieces false).1 tt) z s some

pub token-some : (k : CharClasses) (m : SyntaxMode) (z : Place) → 0 < length z.ahead → 0 < len_at k m z
token-some k m z h = by_end (is_end (token_at k m z).kind) refl
  where
    by_end : (b : Bool) → is_end (token_at k m z).kind ≡ b → 0 < len_at k m z
    by_end true e = let none = ap (λ (xs : List ℕ). length xs) (token-ends k m z e) in absurd (omega (arith, none, h))
    by_end false e = token-takes k m z e

-- If something stands ahead, the trivia there or the token take something.
pub hand-some : (k : CharClasses) (held : Reading) (z : Place) → 0 < length z.ahead → 0 < (hand_at k held None z).gap + (hand_at k held None z).len
unfolding hand_at ahead
hand-some k held z h = some-ahead k held.mode (length z.ahead) z (token-some k held.mode z h)

-- ---- at every level

module _ (k : CharClasses) where
  block-rises : (levels : ℕ) → ((call : Call) → Rises (meaning_of (rules k) k levels call)) → (b : Block) (z : Place) (s : Point) → 0 < length z.ahead → RiseFrom 1 (blocks_of (rules k) k levels (meaning_of (rules k) k levels) b z (forgot s))
  block-rises levels i b z s some =
      begins-by-token (blockless k levels (meaning_of (rules k) k levels)) (sane-meaning (rules k) k levels) (λ b. sane-plain tt) i (λ b has. absurd (cc)) b z (forgot s) (hand-some k s.held z some)

  call-rises : (levels : ℕ) (call : Call) → Rises (meaning_of (rules k) k levels call)
  unfolding meaning_of
  call-rises zero call z s = omega arith
  call-rises (suc levels) call z s =
      rises (level_of (rules k) k levels) (sane-meaning (rules k) k levels) (sane-block (rules k) k levels) (call-rises levels) (λ b _. block-rises levels (call-rises levels) b) (production k call) (guarded-production pieces false k call) z s

-- ---- in bytes

-- If a block begins at a note, its token begins there, and the next note stands at a later byte.
abbrev pub Spread : ℕ → List Note → Type 0
Spread from [] = Unit {0}
Spread from (n ∷ ns) = (from ≤ n.before) × (is_opening n.mark ≡ true → n.start ≡ n.before) × Spread (n.before + taken_behind n.mark) ns

spread-low : (a b : ℕ) (ns : List Note) → a ≤ b → Spread b ns → Spread a ns
spread-low a b [] e h = tt
spread-low a b (n ∷ ns) e h = (let low = h.0 in omega (arith, e, low), h.1, h.2)

-- Notes come in order.
record NotedRising (text : List ℕ) (from : ℕ) (ns : List Note) : Type 0 where
  rising : Rising from (width text) ns
  spread : Spread from ns

rising-low : (a b end : ℕ) (ns : List Note) → a ≤ b → Rising b end ns → Rising a end ns
rising-low a b end [] e h = omega (arith, e, h)
rising-low a b end (n ∷ ns) e h = (let low = h.0 in omega (arith, e, low), h.1, h.2, h.3)

noted-rising : (lv : ℕ) (text : List ℕ) (asks : List Ask) (reach least lo hi : ℕ) → hi ≤ length text → Rise lo hi asks → NotedRising text (width (take lo text)) (notes_from lv (start_of text) reach least asks)
unfolding position
noted-rising lv text [] reach least lo hi fits r = record { rising = take-all lo text; spread = tt }
noted-rising lv text (looked at look ∷ asks) reach least lo hi fits r = let y = moved at (start_of text) in noted-rising lv text asks (max reach (far look.front y)) (min least (near look.back y)) lo hi fits r
noted-rising lv text (marked at gap fewer m s ∷ asks) reach least lo hi fits r =
    let z = start_of text in
    let note = note_by lv z reach least at gap fewer m s in
    let more = fresh_notes lv z asks in
    let i = noted-rising lv text asks 0 none_yet (at + taken_behind m) hi fits r.2 in
    let before : note.before ≡ width (take at text) = width-moved at text in
    let start : note.start ≡ width (take (at + gap) text) = ap (λ (y : Place). width y.before) (sym (moved-sum at gap z)) ∙ width-moved (at + gap) text in
    let one = take-more lo at text r.0 in
    let two = take-more at (at + gap) text (omega arith) in
    let three = take-all (at + gap) text in
    let behind = take-behind at (at + taken_behind m) text (omega arith) (omega (arith, up-ends step direct (at + taken_behind m) hi asks r.2, fits)) in
    record {
      rising = (omega (arith, one, before), omega (arith, two, before, start), omega (arith, three, start), rising-low note.before (width (take (at + taken_behind m) text)) (width text) more (omega (arith, before, behind)) i.rising);
      spread = (omega (arith, one, before), λ o. (let same : at + gap ≡ at = omega (arith, r.1 o) in start ∙ ap (λ n. width (take n text)) same ∙ sym before), spread-low (note.before + taken_behind m) (width (take (at + taken_behind m) text)) more (omega (arith, before, behind)) i.spread);
    }

text-rises : (k : CharClasses) (text : List ℕ) → NotedRising text (width (take 0 text)) (listed (log k text).notes)
unfolding log
text-rises k text =
    let z = start_of text in
    let o = parsed k max_depth text in
    let within = (sane-at (rules k) k max_depth whole).within z (start_point markup_reading) in
    subst (λ ns. NotedRising text (width (take 0 text)) ns) (sym (logged-listed max_depth z o.asks))
    (noted-rising max_depth text o.asks 0 none_yet 0 o.taken (omega (arith, within)) (rises (level_of (rules k) k max_depth) (sane-meaning (rules k) k max_depth) (sane-block (rules k) k max_depth) (call-rises k max_depth) (λ b _. block-rises k max_depth (call-rises k max_depth) b) whole (guarded-whole pieces false (λ _ _. refl)) z (start_point markup_reading)))

pub rising-law : RisingLaw
rising-law k text =
    let none : width (take 0 text) ≡ 0 = width-none in
    subst (λ d. Rising d (width text) (listed (log k text).notes)) none (text-rises k text).rising

-- After a note where a block begins the others stand at later bytes.
pub notes-spread : (k : CharClasses) (text : List ℕ) → Spread 0 (listed (log k text).notes)
notes-spread k text = spread-low 0 (width (take 0 text)) (listed (log k text).notes) (omega arith) (text-rises k text).spread
