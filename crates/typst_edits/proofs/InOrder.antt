-- Marks stand in order by their tokens: each at the token of the one before it, or after that.
use Rattle.typst_edits.proofs.Cited.{◌≡◌, ℕ, zero, suc, ◌+◌, ◌≤◌, ◌==◌, max, min, Bool, true, false, ◌&&◌, nat_lt, List, [], ◌∷◌, take, Option, Some, refl, ap, sym, ◌∙◌, subst, arith, inl, inr, same, SyntaxKind, Place, moved, CharClasses, width, position, far, near, IsRising, Block, Call, MarkupExpr, Mark, Reading, Ask, shift, looked, marked, deeper, is_end, too_deep, hand_at, meaning_of, level_of, blocks_of, Trivia, Point, forgot, gap_of, Shape, becomes, itself, peek, node, node_with_trivia, note, flush_trivia, close_if, Parser, ◌>>◌, at_token, takes, flushes, marks, is_deepest, gives, does, next, repeat, wraps, scoped, Outcome, Meaning, Level, plain, joined, turns, as_last, bound, repeated, blockless, entered, hand_of, hand_asks_of, start_point, done, run, moved-sum, on_both, on_if, rules, production, max_depth, start_of, whole, parsed, log, block_production, level_at, ends, ends_block, note_piece, markup_turn, markup_run, markup_is_empty, markup_reading, content_block, code_block, Guarded, guarded-deep, guarded-production, guarded-inside-code, InOrderLaw, cases_Bool, if-true, guarded-close, guarded-deeper, guarded-node}
use Rattle.typst_language.specs.Syntax.Begin.{at_trivia}
use Rattle.typst_kinds.specs.declared.kind.SyntaxKind.TheVariants as kind
use Rattle.typst_language.specs.declared.calls.Block.TheVariants as block
use Rattle.typst_language.specs.declared.calls.Mark.TheVariants as mark
use Rattle.typst_edits.proofs.Boundary.{KnownAt}
use Rattle.typst_edits.proofs.Joint.{block-taking, known-is, text-taking}
use Rattle.typst_edits.proofs.Turns.{after_trivia, before_trivia, turn_tail, Taking, turn-led}
use Rattle.typst_edits.proofs.Bytes.{none_yet, note_by, notes_from, fresh_notes, logged-listed}
use Rattle.typst_edits.proofs.Rising.{Joins, Upward, ups, up-append, up-shift, up-sunk, up-none, unmarked-hand, from-joined, from-hand, from-run}
use Rattle.typst_edits.proofs.Widths.{width-moved, width-none, take-more}

-- ---- marks in a list of asks

-- From one place up to another each stands where the token of the one before begins, or after that.
abbrev gaps : ℕ → Mark → ℕ
gaps gap m = gap

abbrev any : ℕ → Mark → Type 0
any gap m = Unit {0}

abbrev Orders : ℕ → ℕ → List Ask → Type 0
Orders lo hi ls = Upward gaps any lo hi ls

orders : Joins Orders
orders = ups gaps any

-- ---- whatever the language can say, and notes nothing by itself

-- from one place up to another that is at a given distance after what is taken
abbrev Reaching : {A : Type 0} → ℕ → ℕ → Outcome A → Type 0
Reaching lo gap o = Orders lo (o.taken + gap) o.asks

abbrev InOrder : {A : Type 0} → Outcome A → Type 0
InOrder o = Orders 0 o.taken o.asks

abbrev AllInOrder : {A : Type 0} → Meaning A → Type 0
AllInOrder m = (z : Place) (s : Point) → InOrder (m z s)

-- ---- a run of pieces

orders-high : (lo a b : ℕ) (ls : List Ask) → a ≤ b → Orders lo a ls → Orders lo b ls
orders-high lo a b [] e h = omega (arith, e, h)
orders-high lo a b (looked at look ∷ ls) e h = orders-high lo a b ls e h
orders-high lo a b (marked at gap fewer m s ∷ ls) e h = (h.0, tt, orders-high (at + gap) a b ls e h.2)

-- What follows it begins at a given distance after it.
order-next : {A B : Type 0} (lo mid gap : ℕ) (o : Outcome B) (p : Outcome A) → Reaching lo mid o → Reaching mid gap p → Reaching lo gap (joined o p)
order-next lo mid gap o p h k =
    up-append gaps any lo (o.taken + mid) ((o.taken + p.taken) + gap) o.asks _ h
    (orders-high (o.taken + mid) (o.taken + (p.taken + gap)) ((o.taken + p.taken) + gap) (shift o.taken p.asks) (omega arith) (up-shift gaps any o.taken mid (p.taken + gap) p.asks k))

reaching : {A : Type 0} (gap : ℕ) (o : Outcome A) → InOrder o → Reaching 0 gap o
reaching gap o h = orders-high 0 o.taken (o.taken + gap) o.asks (omega arith) h

-- up to the token at hand after it
abbrev ToToken : {A : Type 0} → ℕ → Outcome A → Type 0
ToToken lo o = Reaching lo (gap_of o.state.known) o

hand-gap : (k : CharClasses) (held : Reading) (known : Option Trivia) (z : Place) → gap_of known ≤ (hand_at k held known z).gap
unfolding hand_at
hand-gap k held known z = grind arith

module _ (l : Level) (deep : (call : Call) → AllInOrder (l.deeper call)) (held : (b : Block) → AllInOrder (l.blocks b)) where
  silent : {A : Type 0} (p : Parser A) → Guarded (λ (m : Mark). false) false p → AllInOrder (run l p)
  silent p q z s =
      from-run Orders orders l (λ m. false) (λ m gap s e. absurd (cc)) (λ z s. Unit {0}) (λ B p z s e. tt)
      (λ call z s. up-sunk gaps any 0 (l.deeper call z s).taken (l.deeper call z s).asks (deep call z s))
      (λ b has z s t. (let v = moved (done l flushes z s).taken z in let p = forgot (done l flushes z s).state in let o = l.blocks b v p in (omega arith, tt, up-append gaps any 0 o.taken o.taken o.asks _ (held b v p) (omega arith, tt, omega arith)))) false p q z s (λ e. tt)

  peek-order : (lo : ℕ) (z : Place) (s : Point) → lo ≤ (hand_of l z s).gap → ToToken lo (run l peek z s)
  unfolding run
  peek-order lo z s e = up-none gaps any lo (0 + (hand_of l z s).gap) (hand_asks_of l z s) (omega (arith, e)) (unmarked-hand l z s)

  note-order : (m : Mark) (z : Place) (s : Point) → ToToken 0 (run l (note m) z s)
  unfolding run note
  note-order m z s =
      let a = run l peek z s in
      let b = done l (marks m) z a.state in
      let c = run l peek z b.state in
      let gap = gap_of c.state.known in
      order-next 0 0 gap a (joined b (joined c (plain (tt {0}) c.state))) (reaching 0 a (from-hand Orders orders l z s 0))
      (order-next 0 (gap_of a.state.known) gap b (joined c (plain (tt {0}) c.state)) (omega arith, tt, omega arith)
      (order-next (gap_of a.state.known) gap gap c (plain (tt {0}) c.state) (peek-order (gap_of a.state.known) z b.state (hand-gap l.classes a.state.held a.state.known z)) (omega arith)))

  tail-order : (brackets : ℕ) (z : Place) (s : Point) → ToToken 0 (run l (turn_tail brackets) z s)
  unfolding run note_piece
  tail-order brackets z s =
      let a = run l peek z s in
      let line = a.value.newlines.any in
      let n = run l (note (mark.Piece line brackets)) z a.state in
      let last : Outcome (Bool × (Bool × ℕ)) = plain (true, (line, brackets)) n.state in
      let gap = gap_of n.state.known in
      order-next 0 0 gap a (joined n last) (reaching 0 a (from-hand Orders orders l z s 0)) (order-next 0 gap gap n last (note-order (mark.Piece line brackets) z a.state) (omega arith))

  module _ (stops : SyntaxKind → Bool) where
    turn-order : (x : Bool × ℕ) (z : Place) (s : Point) → ToToken 0 (run l (markup_turn true stops x) z s)
    unfolding run markup_turn
    turn-order x z s =
        let a = run l peek z s in
        let d = run l (deeper (MarkupExpr x.0 x.1) x.1) z a.state in
        let t = run l (turn_tail d.value) (moved d.taken z) d.state in
        let none = reaching 0 a (from-hand Orders orders l z s 0) in
        let stop : Outcome (Bool × (Bool × ℕ)) = plain (false, x) a.state in
        on_if (λ (q : Outcome (Bool × (Bool × ℕ))). ToToken 0 (joined a q)) (ends stops x.1 a.value.kind) stop (joined d t)
        (λ _. order-next 0 0 (gap_of a.state.known) a stop none (omega arith))
        (λ _. order-next 0 0 (gap_of t.state.known) a (joined d t) none
        (order-next 0 0 (gap_of t.state.known) d t (reaching 0 d (silent (deeper (MarkupExpr x.0 x.1) x.1) (guarded-deeper (λ (m : Mark). false) false (MarkupExpr x.0 x.1) x.1) z a.state)) (tail-order d.value (moved d.taken z) d.state)))

    turn-known : (x : Bool × ℕ) (z : Place) (s : Point) → KnownAt (run l (markup_turn true stops x) z s).state
    unfolding run markup_turn note_piece note
    turn-known x z s =
        let a = run l peek z s in
        let d = run l (deeper (MarkupExpr x.0 x.1) x.1) z a.state in
        let stop : Outcome (Bool × (Bool × ℕ)) = plain (false, x) a.state in
        on_if (λ (q : Outcome (Bool × (Bool × ℕ))). KnownAt q.state) (ends stops x.1 a.value.kind) stop (joined d (run l (turn_tail d.value) (moved d.taken z) d.state))
        (λ _. record { trivia = _; is = refl }) (λ _. record { trivia = _; is = refl })

    stopped-order : (x : Bool × ℕ) (z : Place) (s : Point) → ends stops x.1 (hand_of l z s).kind ≡ true → ToToken (gap_of s.known) (run l (markup_turn true stops x) z s)
    unfolding run markup_turn
    stopped-order x z s e =
        let a = run l peek z s in
        let lo = gap_of s.known in
        let here = peek-order lo z s (hand-gap l.classes s.held s.known z) in
        let stop : Outcome (Bool × (Bool × ℕ)) = plain (false, x) a.state in
        subst (λ (q : Outcome (Bool × (Bool × ℕ))). ToToken lo (joined a q)) (sym (if-true (ends stops x.1 a.value.kind) stop _ e)) (order-next lo (gap_of a.state.known) (gap_of a.state.known) a stop here (omega arith))

    module _ (taking : Taking l stops) where
      led-order : (x : Bool × ℕ) (z : Place) (t : Trivia) (r h : Reading) (e : ℕ) (a : Bool) → ends stops x.1 (hand_at l.classes h (Some t) z).kind ≡ false → ToToken t.gap (run l (markup_turn true stops x) z (before_trivia r h e a t))
      unfolding hand_at
      led-order x z t r h e a go =
          let w = moved t.gap z in
          let p = before_trivia r h e a (after_trivia t) in
          let o = run l (markup_turn true stops x) z (before_trivia r h e a t) in
          let c = run l (markup_turn true stops x) w p in
          let led = turn-led l stops taking x z r h e a t go in
          let gap = ap (λ (q : Point). gap_of q.known) led.state in
          let far = c.taken + gap_of c.state.known in
          let hi = o.taken + gap_of o.state.known in
          let from = up-shift gaps any t.gap 0 far c.asks (turn-order x w p) in
          grind arith

      piece-order : (x : Bool × ℕ) (z : Place) (s : Point) → KnownAt s → ToToken (gap_of s.known) (run l (markup_turn true stops x) z s)
      piece-order x z s known = elim (cases_Bool (ends stops x.1 (hand_of l z s).kind)) [
        | inl e ↦ stopped-order x z s e
        | inr e ↦ subst (λ p. ends stops x.1 (hand_of l z p).kind ≡ false → ToToken (gap_of p.known) (run l (markup_turn true stops x) z p)) (sym (known-is l.classes s known.trivia known.is))
            (led-order x z known.trivia s.reading s.held s.empties s.is_after_error) e
      ]

      pieces-order : (n : ℕ) (x : Bool × ℕ) (z : Place) (s : Point) → KnownAt s → ToToken (gap_of s.known) (turns (λ y. run l (markup_turn true stops y)) n x z s)
      pieces-order zero x z s known = omega arith
      pieces-order (suc n) x z s known =
          let o = run l (markup_turn true stops x) z s in
          let p = turns (λ y. run l (markup_turn true stops y)) n o.value.1 (moved o.taken z) o.state in
          let first = piece-order x z s known in
          on_both (λ (q : Outcome (Bool × ℕ)). ToToken (gap_of s.known) q) (o.value.0 && nat_lt 0 o.taken) (joined o p) (as_last o)
          (order-next (gap_of s.known) (gap_of o.state.known) (gap_of p.state.known) o p first (pieces-order n o.value.1 (moved o.taken z) o.state (turn-known x z s))) first

    module _ (taking : (l.levels == 0) ≡ false → Taking l stops) where
      run-order : (z : Place) (s : Point) → ToToken 0 (run l (markup_run stops) z s)
      unfolding run markup_run repeated
      run-order z s =
          let d = done l is_deepest z s in
          let m = done l (marks (mark.Piece true 0)) z s in
          let a = run l peek z s in
          let r = run l (repeat (markup_turn true stops) (true, 0)) z a.state in
          let skipped = run l (peek >> too_deep stops) z s in
          let gap = gap_of r.state.known in
          on_if (λ (q : Outcome (Unit {0})). ToToken 0 (joined d q)) (l.levels == 0) skipped (joined m (joined a (joined r (plain (tt {0}) r.state))))
          (λ _. order-next 0 0 (gap_of skipped.state.known) d skipped (omega arith)
          (reaching (gap_of skipped.state.known) skipped (silent (peek >> too_deep stops) (refl, λ _. guarded-deep (λ (m : Mark). false) _ stops) z s)))
          (λ e. order-next 0 0 gap d (joined m (joined a (joined r (plain (tt {0}) r.state)))) (omega arith)
          (order-next 0 (gap_of s.known) gap m (joined a (joined r (plain (tt {0}) r.state))) (omega arith, tt, omega arith)
          (order-next (gap_of s.known) (gap_of a.state.known) gap a (joined r (plain (tt {0}) r.state)) (peek-order (gap_of s.known) z s (hand-gap l.classes s.held s.known z))
          (order-next (gap_of a.state.known) gap gap r (plain (tt {0}) r.state)
          (pieces-order (taking e) (suc (bound z a.state)) (true, 0) z a.state (record { trivia = _; is = refl })) (omega arith)))))

      -- and the trivia after it
      flushed-order : AllInOrder (run l (markup_run stops >> flush_trivia))
      unfolding run flush_trivia
      flushed-order z s =
          let o = run l (markup_run stops) z s in
          let w = moved o.taken z in
          let f = done l flushes w o.state in
          let n = run l (peek >> gives (tt {0})) (moved f.taken w) f.state in
          let gap = gap_of o.state.known in
          let all = hand-gap l.classes o.state.held o.state.known w in
          let all_read = joined o (joined f n) in
          orders-high 0 (all_read.taken + 0) all_read.taken all_read.asks (omega arith) (order-next 0 gap 0 o (joined f n) (run-order z s)
          (order-next gap 0 0 f n (up-none gaps any gap (f.taken + 0) (hand_asks_of l w o.state) (omega (arith, all)) (unmarked-hand l w o.state)) (reaching 0 n (silent (peek >> gives (tt {0})) (refl, λ _. tt) (moved f.taken w) f.state))))

  all-next : {A B : Type 0} (p : Parser B) (f : B → Parser A) → AllInOrder (run l p) → ((b : B) → AllInOrder (run l (f b))) → AllInOrder (run l (next p f))
  unfolding run
  all-next p f h k z s = let o = run l p z s in from-joined Orders orders 0 o (run l (f o.value) (moved o.taken z) o.state) (h z s) (k o.value (moved o.taken z) o.state)

  all-node : {A : Type 0} (shape : A → Shape) (p : Parser A) → AllInOrder (run l p) → AllInOrder (run l (node shape p))
  unfolding node run
  all-node shape p h z s =
      let a = run l peek z s in
      let o = run l (wraps shape at_token p) z a.state in
      from-joined Orders orders 0 a (joined o (plain o.value.0 o.state)) (from-hand Orders orders l z s 0) (from-joined Orders orders 0 o (plain o.value.0 o.state) (h z a.state) (omega arith))

  all-scoped : {A : Type 0} (f : Reading → Reading) (p : Parser A) → AllInOrder (run l p) → AllInOrder (run l (scoped f p))
  unfolding run
  all-scoped f p h z s = h z (entered (f s.reading) s)

  all-trivia : (k : SyntaxKind) (p : Parser (Unit {0})) → AllInOrder (run l (p >> flush_trivia)) → AllInOrder (run l (node_with_trivia k p))
  unfolding node_with_trivia run
  all-trivia k p h z s = let o = run l (wraps (λ _. becomes k) at_trivia (p >> flush_trivia)) z s in from-joined Orders orders 0 o (plain o.value.1 o.state) (h z s) (omega arith)

-- ---- at every level

module _ (k : CharClasses) where
  block-takes : (levels : ℕ) → (levels == 0) ≡ false → Taking (blockless k levels (meaning_of (rules k) k levels)) ends_block
  block-takes zero e = absurd (cc)
  block-takes (suc n) e = block-taking k n

  none-held : (levels : ℕ) (b : Block) → AllInOrder ((blockless k levels (meaning_of (rules k) k levels)).blocks b)
  none-held levels b z s = omega arith

  block-order : (levels : ℕ) → ((call : Call) → AllInOrder (meaning_of (rules k) k levels call)) → (b : Block) → AllInOrder (blocks_of (rules k) k levels (meaning_of (rules k) k levels) b)
  unfolding content_block markup_is_empty code_block
  block-order levels i block.Content =
      let l = blockless k levels (meaning_of (rules k) k levels) in
      let held = none-held levels in
      all-next l i held peek _ (silent l i held peek refl) (λ _.
      all-next l i held _ _ (all-node l i held _ _ (all-scoped l i held _ _ (all-next l i held _ _ (silent l i held (does (takes false itself)) refl) (λ _.
      all-next l i held _ _ (all-next l i held _ _ (all-trivia l i held kind.Markup (markup_run ends_block) (flushed-order l i held ends_block (block-takes levels))) (λ _. silent l i held (gives _) tt))
      (λ _. silent l i held (close_if (same kind.RightBracket)) (guarded-close (λ (m : Mark). false) false (same kind.RightBracket)))))))
      (λ _. silent l i held (gives (tt {0})) tt))
  block-order levels i block.Code =
      silent (blockless k levels (meaning_of (rules k) k levels)) i (none-held levels) (peek >> block_production block.Code) (refl, λ _. (guarded-node (λ (m : Mark). false) _ _ _ (guarded-inside-code (λ (m : Mark). false) false), λ _. tt))

  call-order : (levels : ℕ) (call : Call) → AllInOrder (meaning_of (rules k) k levels call)
  unfolding meaning_of
  call-order zero call z s = omega arith
  call-order (suc levels) call z s =
      silent (level_of (rules k) k levels) (call-order levels) (block-order levels (call-order levels)) (production k call) (guarded-production (λ (m : Mark). false) false k call) z s

  whole-order : AllInOrder (run (level_at k max_depth) whole)
  unfolding whole
  whole-order = flushed-order (level_at k max_depth) (call-order max_depth) (block-order max_depth (call-order max_depth)) is_end (λ _. text-taking k)

-- ---- in bytes

notes-order : (lv : ℕ) (text : List ℕ) (asks : List Ask) (reach least lo hi : ℕ) → Orders lo hi asks → IsRising (width (take lo text)) (notes_from lv (start_of text) reach least asks)
unfolding position
notes-order lv text [] reach least lo hi r = tt
notes-order lv text (looked at look ∷ asks) reach least lo hi r = let y = moved at (start_of text) in notes-order lv text asks (max reach (far look.front y)) (min least (near look.back y)) lo hi r
notes-order lv text (marked at gap fewer m s ∷ asks) reach least lo hi r =
    let z = start_of text in
    let note = note_by lv z reach least at gap fewer m s in
    let before : note.before ≡ width (take at text) = width-moved at text in
    let start : note.start ≡ width (take (at + gap) text) = ap (λ (y : Place). width y.before) (sym (moved-sum at gap z)) ∙ width-moved (at + gap) text in
    (omega (arith, take-more lo at text r.0, before), omega (arith, take-more at (at + gap) text (omega arith), before, start), subst (λ n. IsRising n (fresh_notes lv z asks)) (sym start) (notes-order lv text asks 0 none_yet (at + gap) hi r.2))

pub in-order-law : InOrderLaw
unfolding log
in-order-law k text =
    let z = start_of text in
    let o = parsed k max_depth text in
    subst (λ ns. IsRising 0 ns) (sym (logged-listed max_depth z o.asks))
    (subst (λ d. IsRising d (fresh_notes max_depth z o.asks)) width-none (notes-order max_depth text o.asks 0 none_yet 0 o.taken (whole-order k z (start_point markup_reading))))
