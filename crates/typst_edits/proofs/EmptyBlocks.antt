-- Content blocks without an expression have one note between their two, and look only at the token after their trivia.
use Rattle.typst_edits.proofs.Cited.{◌≡◌, ℕ, suc, ◌+◌, ◌-◌, Bool, true, false, ◌&&◌, ◌==◌, if◌then◌else◌, List, [], ◌∷◌, ◌++◌, length, Some, refl, ap, sym, ◌∙◌, subst, arith, SyntaxKind, SyntaxMode, same, is_error, Place, moved, CharClasses, position, text_of, Mark, Note, State, Ask, shift, looked, marked, Hand, as_at_hand, hand_at, token_at, Trivia, Point, point_of, state_of, after_node, itself, flush_trivia, close_if, takes, Outcome, Level, plain, joined, repeated, hand_of, hand_asks_of, asked, entered, renewed, taken_node, flushed_state, done, run, ends, ends_block, markup_reading, max_depth, start_of, log, inner, look_again, bracket, inner_lead, inner_run, inner_tail, inner_close, run_at, Every, onwards, passed, block_at, blocks_of_text, Sequence, turn_of, lowered, unit_at, notes_in, on_both, IsEmpty, EmptyBlockLaw, text_before}
use Rattle.typst_kinds.specs.declared.kind.SyntaxKind.TheVariants as kind
use Rattle.typst_kinds.specs.declared.mode.SyntaxMode.TheVariants as mode
use Rattle.typst_language.specs.declared.calls.Block.TheVariants as block
use Rattle.typst_language.specs.declared.calls.Mark.TheVariants as mark
use Rattle.typst_language.specs.declared.reading.AtNewline.TheVariants as newline
use Rattle.typst_edits.proofs.BlockRuns.{content-is}
use Rattle.typst_edits.proofs.BlockLog.{block-log}
use Rattle.typst_edits.proofs.EmptyRuns.{Knows, hand-gap, asked-knows, flushed-knows, passed-kind, Looks, begin-each, begin-one, token_look, looks-hand, looks-append, unmoved, run-stopped, onwards-looks, Never, none-flush, end-any}
use Rattle.typst_edits.proofs.Every.{every-append}
use Rattle.typst_edits.proofs.Forward.{token-still}
use Rattle.typst_edits.proofs.RunBytes.{asks_before, content-asks, before-marks}
use Rattle.typst_edits.proofs.Bytes.{none_yet, fresh_notes, noted-length, notes-lowered, AllMarks, marks-append, marks-by, marks-shift, marks-lowered, none-hand, NoteOf, every-note, none-close}
use Rattle.typst_edits.proofs.Text.{content-reads}
use Rattle.typst_edits.proofs.Splice.{count-append, count-shift, count-none}
use Rattle.typst_edits.proofs.PieceAsks.{lifted-count}

-- ---- looks

continues : (b : Bool) (s : SyntaxKind) → (if b && false then kind.End else s) ≡ s
continues true s = refl
continues false s = refl

-- Where newlines don't matter, the kind at hand is that of the token after the known trivia.
hand-token : (k : CharClasses) (m : SyntaxMode) (t : Trivia) (z : Place) → (hand_at k (record { mode = m; at_newline = newline.Continue }) (Some t) z).kind ≡ (token_at k m (moved t.gap z)).kind
unfolding hand_at
hand-token k m t z = continues t.newlines.any (token_at k m (moved t.gap z)).kind

flush-taken : (l : Level) (z : Place) (n : ℕ) (s : Point) → Knows n s → (run l flush_trivia z s).taken ≡ n
unfolding run flush_trivia
flush-taken l z n s h = omega (arith, hand-gap l z n s h)

flush-knows : (l : Level) (z : Place) (n : ℕ) (s : Point) → Knows n s → Knows 0 (run l flush_trivia z s).state
unfolding run flush_trivia
flush-knows l z n s h =
    let hand = hand_of l z s in
    asked-knows l (moved hand.gap z) 0 (flushed_state hand s) (flushed-knows l z n s h)

close-looks : (l : Level) (z : Place) (s : Point) → Knows 0 s → Every (λ a. a ≡ looked 0 (token_look l z)) (run l (close_if (same kind.RightBracket)) z s).asks
unfolding run close_if
close-looks l z s h =
    let P = λ (a : Ask). a ≡ looked 0 (token_look l z) in
    let a = asked (hand_of l z s) s in
    let took = done l (takes false itself) z a in
    let taken = joined took (plain true took.state) in
    let b = same kind.RightBracket (as_at_hand (hand_of l z s)).kind in
    let in_took = every-append P (hand_asks_of l z a) [] (looks-hand l z a (asked-knows l z 0 s h)).each tt in
    every-append P (hand_asks_of l z s) (shift 0 (if b then taken else plain false a).asks) (looks-hand l z s h).each
    (unmoved (token_look l z) 0 (if b then taken else plain false a).asks refl (on_both (λ (o : Outcome Bool). Every P o.asks) b taken (plain false a) in_took tt))

-- what is taken after the trivia of a run without an expression
onwards-taken : (r : Sequence) (x : Bool × ℕ) (z : Place) (s : Point) → Knows 0 s → ends r.stops x.1 (as_at_hand (hand_of r.level z s)).kind ≡ true → (onwards r x z s).taken ≡ 0
unfolding run
onwards-taken r x z s h e =
    let l = r.level in
    subst (λ (o : Outcome (Bool × ℕ)). (joined o (run l flush_trivia (moved o.taken z) o.state)).taken ≡ 0) (sym (run-stopped l r.stops x z s e))
    (omega (arith, flush-taken l z 0 (asked (hand_of l z s) s) (asked-knows l z 0 s h)))

module _ (k : CharClasses) (levels : ℕ) (z : Place) (s : Point) where
  abbrev the_run : Sequence
  the_run = inner_run k levels z s

  abbrev l : Level
  l = inner k levels

  renewed-held : (b : Bool) (text : List ℕ) (p : Point) → (renewed (after_node b text p)).held ≡ p.reading
  renewed-held true text p = refl
  renewed-held false text p = refl

  -- the block's run begins in markup
  pub run-knows : (t : Trivia) → the_run.point.known ≡ Some t → Knows t.gap the_run.point
  unfolding run
  run-knows t known =
      let p = entered markup_reading (look_again k levels z s).state in
      let node = taken_node k itself (hand_of l z p) z in
      record { held = renewed-held (is_error node.head.kind) (text_of node) p; trivia = t; known = known; gap = refl }

  -- the closing bracket, by what the run gives
  abbrev closing : Outcome (Bool × ℕ) → Outcome Bool
  closing q =
      let t = inner_tail k levels (((0 + 0) + q.taken)) q.state the_run.place in
      inner_close k levels (((0 + 0) + q.taken) + t.taken) t.state the_run.place

  closing-looks : (t : Trivia) → the_run.point.known ≡ Some t → IsEmpty the_run → Every (λ a. a ≡ looked 0 (token_look l (moved t.gap the_run.place))) (closing (repeated (turn_of the_run) (true, 0) the_run.place the_run.point)).asks
  closing-looks t known e =
      let y = the_run.place in
      let p = the_run.point in
      let a = asked (hand_of l y p) p in
      let h = asked-knows l y t.gap p (run-knows t known) in
      let tail = run l flush_trivia y a in
      let there : ((0 + 0) + 0) + tail.taken ≡ t.gap = omega (arith, flush-taken l y t.gap a h) in
      let f = flush-knows l y t.gap a h in
      let u = after_node false [] tail.state in
      let known_there : Knows 0 u = record { held = f.held; trivia = f.trivia; known = f.known; gap = f.gap } in
      subst (λ (q : Outcome (Bool × ℕ)). Every (λ a. a ≡ looked 0 (token_look l (moved t.gap y))) (closing q).asks) (sym (run-stopped l ends_block (true, 0) y p e))
      (subst (λ n. Every (λ a. a ≡ looked 0 (token_look l (moved t.gap y))) (run l (close_if (same kind.RightBracket)) (moved n y) u).asks) (sym there) (close-looks l (moved t.gap y) u known_there))

  -- all that is asked after the trivia in the block
  past-looks : (t : Trivia) → the_run.point.known ≡ Some t → IsEmpty the_run
      → (let o = onwards the_run (true, 0) (moved t.gap the_run.place) (passed t the_run.point) in
      Looks (token_look l (moved t.gap the_run.place)) (o.asks ++ shift o.taken (closing (repeated (turn_of the_run) (true, 0) the_run.place the_run.point)).asks))
  past-looks t known e =
      let y = moved t.gap the_run.place in
      let p = passed t the_run.point in
      let h : Knows 0 p = record { held = (run-knows t known).held; trivia = _; known = refl; gap = refl } in
      let stops : ends ends_block 0 (as_at_hand (hand_of l y p)).kind ≡ true = ap (ends ends_block 0) (passed-kind l the_run.place t the_run.point known) ∙ e in
      let o = onwards the_run (true, 0) y p in
      looks-append (token_look l y) o.asks _ (onwards-looks the_run (true, 0) y p h stops)
      (unmoved (token_look l y) o.taken _ (onwards-taken the_run (true, 0) y p h stops) (closing-looks t known e))

  -- The token at which it ends looks back at nothing.
  pub end-still : (t : Trivia) → the_run.point.known ≡ Some t → IsEmpty the_run → (token_look l (moved t.gap the_run.place)).back ≡ 0
  end-still t known e =
      let y = the_run.place in
      let g = hand_at k markup_reading (Some t) y in
      let alike : hand_of l y the_run.point ≡ g = (λ i. hand_at k ((run-knows t known).held i) (known i) y) in
      let ends_it : ends_block g.kind ≡ true = end-any (same kind.RightBracket g.kind) (ends_block g.kind) (0 == 0) (ap (λ (a : Hand). ends ends_block 0 a.kind) (sym alike) ∙ e) in
      let w = moved t.gap y in
      token-still k w.before w.ahead (ap ends_block (sym (hand-token k mode.Markup t y)) ∙ ends_it)

-- ---- one note

record One (ns : List Note) : Type 0 where
  only : Note
  is : ns ≡ only ∷ []

one-of : (ns : List Note) → length ns ≡ 1 → One ns
one-of [] e = absurd (omega (arith, e))
one-of (n ∷ []) e = record { only = n; is = refl }
one-of (n ∷ m ∷ ns) e = absurd (omega (arith, e))

-- It says that a run begins, where a given number of levels fewer are left.
abbrev Begins : ℕ → ℕ → ℕ → Mark → State → Type 0
Begins f at fewer m p = (fewer ≡ f) × (m ≡ mark.Piece true 0)

-- There is one mark, and it says so.
record Single (f : ℕ) (asks : List Ask) : Type 0 where
  each : AllMarks (Begins f) asks
  size : notes_in asks ≡ 1

single-in : (xs ys : List Ask) (n : ℕ) (s : State) → AllMarks Never xs → AllMarks Never ys → Single 0 (xs ++ shift n (marked 0 0 0 (mark.Piece true 0) s ∷ ys))
single-in xs ys n s a b =
    let P = Begins 0 in
    let first : Ask = marked 0 0 0 (mark.Piece true 0) s in
    record {
      each = marks-append P xs (shift n (first ∷ ys)) (marks-by Never P (λ at fewer m p h. absurd h) xs a)
          (marks-shift P n (first ∷ ys) ((refl, refl), marks-by Never P (λ at fewer m p h. absurd h) ys b));
      size = omega (arith, count-append xs (shift n (first ∷ ys)), count-shift n (first ∷ ys), count-none xs a, count-none ys b);
    }

single-lowered : (f n : ℕ) (asks : List Ask) → Single 0 asks → Single f (shift n (lowered f asks))
single-lowered f n asks h =
    let P = Begins f in
    let lower : (at fewer : ℕ) (m : Mark) (p : State) → Begins 0 at fewer m p → Begins f at (f + fewer) m p = λ at fewer m p i. (omega (arith, i.0), i.1) in
    record { each = marks-shift P n (lowered f asks) (marks-lowered P f asks (marks-by (Begins 0) (λ at fewer m p. P at (f + fewer) m p) lower asks h.each)); size = lifted-count n f asks ∙ h.size }

module _ (k : CharClasses) (levels : ℕ) (z : Place) (s : Point) where
  block-single : IsEmpty (inner_run k levels z s) → Single 0 (block_at k (suc levels) block.Content z s).asks
  unfolding run
  block-single e =
      let r = inner_run k levels z s in
      let l = inner k levels in
      let o = repeated (turn_of r) (true, 0) r.place r.point in
      let t = inner_tail k levels o.taken o.state r.place in
      let close = inner_close k levels (o.taken + t.taken) t.state r.place in
      let is = ap (λ (u : Outcome (Unit {0})). u.asks) (content-is k levels z s) ∙ content-asks k levels z s o t close in
      let b = bracket k levels z s in
      let ls = (inner_lead k levels z s).asks in
      let stop : o.asks ≡ hand_asks_of l r.place r.point ++ [] = ap (λ (u : Outcome (Bool × ℕ)). u.asks) (run-stopped l ends_block (true, 0) r.place r.point e) in
      let in_run : AllMarks Never o.asks = subst (λ u. AllMarks Never u) (sym stop) (marks-append Never (hand_asks_of l r.place r.point) [] (none-hand Never k r.point.held r.point.known r.place) tt) in
      let last = marks-shift Never o.taken (t.asks ++ shift t.taken close.asks) (marks-append Never t.asks (shift t.taken close.asks) (none-flush Never l (moved o.taken r.place) o.state)
      (marks-shift Never t.taken close.asks (none-close Never l (moved (o.taken + t.taken) r.place) (after_node false [] t.state)))) in
      let behind = shift o.taken (t.asks ++ shift t.taken close.asks) in
      let inside = marks-append Never (ls ++ o.asks) behind (marks-append Never ls o.asks (none-hand Never k b.state.held b.state.known r.place) in_run) last in
      subst (λ u. Single 0 u) (sym is) (single-in (asks_before k levels z s) ((ls ++ o.asks) ++ behind) b.taken (state_of b.state) (before-marks k levels Never z s) inside)

pub empty-block-law : EmptyBlockLaw
unfolding blocks_of_text log position
empty-block-law k levels edit c past t chosen name left empty known =
    let text = text_before edit in
    let z = start_of text in
    let d = block-log k text c chosen in
    let b = d.notes in
    let s = point_of c.start in
    let y = moved c.at z in
    let u = unit_at c z in
    let f = c.fewer in
    let in_unit = subst (λ (v : Outcome (Unit {0})). Single 0 v.asks) (sym (content-reads k text c chosen levels name left z)) (block-single k levels y s empty) in
    let own = shift c.at (lowered f u.asks) in
    let single = single-lowered f c.at u.asks in_unit in
    -- its notes
    let inside = fresh_notes max_depth z own in
    let size : length inside ≡ 1 = noted-length max_depth z own 0 none_yet ∙ single.size in
    let only = one-of inside size in
    let of_it = (subst (λ ns. Every (NoteOf (Begins f) max_depth z) ns) only.is (every-note (Begins f) max_depth z own 0 none_yet single.each)).0 in
    let fewer : of_it.fewer ≡ f = of_it.holds.0 in
    let looks = past-looks k levels y s t known empty in
    let place = (run_at k levels c z).place in
    record {
      earlier = b.earlier;
      opens = b.opens;
      note = only.only;
      closes = b.closes;
      later = b.later;
      notes = b.notes ∙ ap (λ ns. Some (b.earlier ++ b.opens ∷ (ns ++ b.closes ∷ b.later))) (d.inner_is ∙ sym (notes-lowered max_depth f c.at z u.asks) ∙ only.is);
      name = b.name;
      start = b.start;
      says = of_it.mark ∙ of_it.holds.1;
      levels_there = of_it.levels ∙ ap (λ n. max_depth - n) fewer ∙ left;
      name_end = b.name_end;
      after = λ h behind. record { inside = begin-each past edit.rest (token_look (inner k levels) (moved t.gap place)) _ looks.each h; behind = behind };
      after_too = λ h. begin-one past edit.rest (token_look (inner k levels) (moved t.gap place)) _ looks h.inside;
    }
