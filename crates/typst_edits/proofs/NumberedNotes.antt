-- The notes of a run by their numbers.
use Rattle.typst_edits.proofs.Cited.{◌≡◌, ℕ, zero, suc, ◌+◌, ◌-◌, ◌<◌, ◌==◌, eq-eqb, ne_eqb, max, min, List, [], ◌∷◌, ◌++◌, length, refl, ap, sym, subst, arith, Bool, true, false, ◌&&◌, nat_lt, take, Some, ◌∙◌, ◌≤◌, if◌then◌else◌, length-append, Place, moved, position, far, near, width, Mark, Note, State, Ask, shift, looked, marked, of_level, Numbered, cut_after, SaysOf, NumberedInner, ltb-true, lt-ltb, SyntaxKind, same, Nested, CharClasses, MarkupExpr, deeper, is_end, as_at_hand, Point, gap_of, point_of, state_of, after_node, Outcome, Meaning, Level, joined, turns, as_last, bound, repeated, hand_of, hand_asks_of, asked, run, sane-run, sane-at, moved-sum, and-second, ends, markup_turn, ends_block, max_depth, level_at, start_of, parsed, log, rules, inner, bracket, inner_lead, inner_run, inner_tail, inner_close, run_at, opened_at, Among, inner_end, blocks_of_text, block_at, goes, listed, made, AllGo, End, end_of, piece_at, start, lead, tail, Sequence, turn_of, notes_in, Spot, unit_at, peek, Within, if-true, if-false, NumberedRunLaw, NumberedInnerLaw, NumberLaw, Says, text_run, first_of, first_end}
use Rattle.typst_edits.proofs.Bytes.{none_yet, note_by, notes_from, fresh_notes, AllMarks, marks-append, marks-shift, none-hand, none-close, logged-listed}
use Rattle.typst_edits.proofs.BlockRuns.{content-is, whole-is, within}
use Rattle.typst_edits.proofs.Boundary.{KnownAt, stopped-is, stopped-asks, turn-asks, early-marks, turn-goes, turn-known, piece_mark}
use Rattle.typst_edits.proofs.BlockLog.{block-log}
use Rattle.typst_edits.proofs.RunBytes.{asks_before, inner_run_mark as run_mark, content-asks, before-marks}
use Rattle.typst_edits.proofs.Joint.{known-is, text-taking, block-taking}
use Rattle.typst_edits.proofs.RunTrees.{whole-asks}
use Rattle.typst_edits.proofs.Text.{content-reads}
use Rattle.typst_edits.proofs.Widths.{width-moved, take-longer}
use Rattle.typst_edits.proofs.EmptyRuns.{none-flush as flush-marks}
use Rattle.typst_edits.proofs.Turns.{Taking, turn-led}
use Rattle.typst_language.specs.declared.calls.Block.TheVariants as block
use Rattle.typst_language.specs.declared.calls.Mark.TheVariants as mark
use Rattle.typst_edits.proofs.Every.{neither}

-- ---- the marks of a run among those of all that is asked in it, in turn

-- Those where as many levels are left have numbers in turn, from one number up to another.
abbrev pub InTurn : (ℕ → ℕ → ℕ → Mark → State → Type 0) → ℕ → ℕ → List Ask → Type 0
InTurn P i j [] = i ≡ j
InTurn P i j (looked at look ∷ asks) = InTurn P i j asks
InTurn P i j (marked at gap zero m s ∷ asks) = P i at gap m s × InTurn P (suc i) j asks
InTurn P i j (marked at gap (suc fewer) m s ∷ asks) = InTurn P i j asks

pub turn-append : (P : ℕ → ℕ → ℕ → Mark → State → Type 0) (i j n : ℕ) (ls ks : List Ask) → InTurn P i j ls → InTurn P j n ks → InTurn P i n (ls ++ ks)
turn-append P i j n [] ks h e = subst (λ x. InTurn P x n ks) (sym h) e
turn-append P i j n (looked at look ∷ ls) ks h e = turn-append P i j n ls ks h e
turn-append P i j n (marked at gap zero m s ∷ ls) ks h e = (h.0, turn-append P (suc i) j n ls ks h.1 e)
turn-append P i j n (marked at gap (suc fewer) m s ∷ ls) ks h e = turn-append P i j n ls ks h e

-- with a number more
pub turn-next : (P Q : ℕ → ℕ → ℕ → Mark → State → Type 0) → ((i at gap : ℕ) (m : Mark) (s : State) → P i at gap m s → Q (suc i) at gap m s) → (i j : ℕ) (ls : List Ask) → InTurn P i j ls → InTurn Q (suc i) (suc j) ls
turn-next P Q f i j [] h = ap suc h
turn-next P Q f i j (looked at look ∷ ls) h = turn-next P Q f i j ls h
turn-next P Q f i j (marked at gap zero m s ∷ ls) h = (f i at gap m s h.0, turn-next P Q f (suc i) j ls h.1)
turn-next P Q f i j (marked at gap (suc fewer) m s ∷ ls) h = turn-next P Q f i j ls h

-- of the numbers from one on
pub turn-by : (P Q : ℕ → ℕ → ℕ → Mark → State → Type 0) → ((i at gap : ℕ) (m : Mark) (s : State) → P (suc i) at gap m s → Q (suc i) at gap m s) → (i j : ℕ) (ls : List Ask) → InTurn P (suc i) j ls → InTurn Q (suc i) j ls
turn-by P Q f i j [] h = h
turn-by P Q f i j (looked at look ∷ ls) h = turn-by P Q f i j ls h
turn-by P Q f i j (marked at gap zero m s ∷ ls) h = (f i at gap m s h.0, turn-by P Q f (suc i) j ls h.1)
turn-by P Q f i j (marked at gap (suc fewer) m s ∷ ls) h = turn-by P Q f i j ls h

-- counted from a given number of characters before
pub turn-shift : (P : ℕ → ℕ → ℕ → Mark → State → Type 0) (d i j : ℕ) (ls : List Ask) → InTurn (λ n at gap m s. P n (d + at) gap m s) i j ls → InTurn P i j (shift d ls)
turn-shift P d i j [] h = h
turn-shift P d i j (looked at look ∷ ls) h = turn-shift P d i j ls h
turn-shift P d i j (marked at gap zero m s ∷ ls) h = (h.0, turn-shift P d (suc i) j ls h.1)
turn-shift P d i j (marked at gap (suc fewer) m s ∷ ls) h = turn-shift P d i j ls h

-- whatever is one level deeper
abbrev pub Deeper : ℕ → ℕ → Mark → State → Type 0
Deeper at fewer m s = 0 < fewer

pub turn-none : (P : ℕ → ℕ → ℕ → Mark → State → Type 0) (i : ℕ) (ls : List Ask) → AllMarks Deeper ls → InTurn P i i ls
turn-none P i [] h = refl
turn-none P i (looked at look ∷ ls) h = turn-none P i ls h
turn-none P i (marked at gap zero m s ∷ ls) h = absurd (omega (arith, h.0))
turn-none P i (marked at gap (suc fewer) m s ∷ ls) h = turn-none P i ls h.1

-- ---- their notes

-- A note is that of the mark of a number.
pub record NoteNth (P : ℕ → ℕ → ℕ → Mark → State → Type 0) (z : Place) (i : ℕ) (n : Note) : Type 0 where
  pub at : ℕ
  pub gap : ℕ
  pub says : Mark
  pub told : State
  pub holds : P i at gap says told
  pub mark : n.mark ≡ says
  pub before : n.before ≡ position (moved at z)
  pub start : n.start ≡ position (moved gap (moved at z))
  pub state : n.state ≡ told

-- Those of the level among some notes have these numbers.
pub record NotedNth (P : ℕ → ℕ → ℕ → Mark → State → Type 0) (levels : ℕ) (z : Place) (i j : ℕ) (ns : List Note) : Type 0 where
  pub each : Numbered (NoteNth P z) i (of_level levels ns)
  pub all : i + length (of_level levels ns) ≡ j

pub noted-nth : (P : ℕ → ℕ → ℕ → Mark → State → Type 0) (levels : ℕ) (z : Place) (asks : List Ask) (reach least i j : ℕ) → InTurn P i j asks → NotedNth P (suc levels) z i j (notes_from (suc levels) z reach least asks)
noted-nth P levels z [] reach least i j a = record { each = tt; all = omega (arith, a) }
noted-nth P levels z (looked at look ∷ asks) reach least i j a = noted-nth P levels z asks (max reach (far look.front (moved at z))) (min least (near look.back (moved at z))) i j a
noted-nth P levels z (marked at gap zero m s ∷ asks) reach least i j a =
    let left = suc levels - 0 in
    let note = note_by (suc levels) z reach least at gap 0 m s in
    let more = fresh_notes (suc levels) z asks in
    let r = noted-nth P levels z asks 0 none_yet (suc i) j a.1 in
    let own : of_level (suc levels) (note ∷ more) ≡ note ∷ of_level (suc levels) more = if-true (left == suc levels) _ _ (eq-eqb left (suc levels) (omega arith)) in
    let long : length (of_level (suc levels) (note ∷ more)) ≡ suc (length (of_level (suc levels) more)) = ap length own in
    record {
      each = subst (λ xs. Numbered (NoteNth P z) i xs) (sym own) (record { at = at; gap = gap; says = m; told = s; holds = a.0; mark = refl; before = refl; start = refl; state = refl }, r.each);
      all = omega (arith, r.all, long);
    }
noted-nth P levels z (marked at gap (suc fewer) m s ∷ asks) reach least i j a =
    let left = suc levels - suc fewer in
    let note = note_by (suc levels) z reach least at gap (suc fewer) m s in
    let more = fresh_notes (suc levels) z asks in
    let r = noted-nth P levels z asks 0 none_yet i j a in
    let other : of_level (suc levels) (note ∷ more) ≡ of_level (suc levels) more = if-false (left == suc levels) _ _ (ne_eqb left (suc levels) (omega arith)) in
    record { each = subst (λ xs. Numbered (NoteNth P z) i xs) (sym other) r.each; all = omega (arith, r.all, ap length other) }

pub numbered-by : (P Q : ℕ → Note → Type 0) → ((i : ℕ) (n : Note) → P i n → Q i n) → (i : ℕ) (ns : List Note) → Numbered P i ns → Numbered Q i ns
numbered-by P Q f i [] h = tt
numbered-by P Q f i (n ∷ ns) h = (f i n h.0, numbered-by P Q f (suc i) ns h.1)

-- The mark of a number stands where that number of turns end.
pub record EndsNth (m : Bool × ℕ → Meaning (Bool × (Bool × ℕ))) (x : Bool × ℕ) (z : Place) (s : Point) (i at gap : ℕ) (what : Mark) (state : State) : Type 0 where
  pub at_is : at ≡ (end_of x s (made m i x z s)).taken
  pub gap_is : gap ≡ gap_of (end_of x s (made m i x z s)).state.known
  pub says : (let e = end_of x s (made m i x z s) in what ≡ mark.Piece e.value.0 e.value.1)
  pub state_is : state ≡ state_of (end_of x s (made m i x z s)).state

-- the turns of a run and their marks
pub record TurnMarks (m : Bool × ℕ → Meaning (Bool × (Bool × ℕ))) (x : Bool × ℕ) (z : Place) (s : Point) (asks : List Ask) : Type 0 where
  pub count : ℕ
  pub go : AllGo (made m count x z s)
  pub over : (let e = end_of x s (made m count x z s) in goes (m e.value (moved e.taken z) e.state) ≡ false)
  pub marks : InTurn (EndsNth m x z s) 1 (suc count) asks

module _ (l : Level) (stops : SyntaxKind → Bool) (taking : Taking l stops) where
  abbrev turn : Bool × ℕ → Meaning (Bool × (Bool × ℕ))
  turn x = run l (markup_turn true stops x)

  -- A turn that isn't stopped takes something.
  goes-on : (x : Bool × ℕ) (z : Place) (s : Point) → KnownAt s → ends stops x.1 (as_at_hand (hand_of l z s)).kind ≡ false → goes (turn x z s) ≡ true
  goes-on x z s known go =
      let t = known.trivia in
      let is = known-is l.classes s t known.is in
      let led = turn-led l stops taking x z s.reading s.held s.empties s.is_after_error t (subst (λ p. ends stops x.1 (as_at_hand (hand_of l z p)).kind ≡ false) is go) in
      let same : turn x z s ≡ turn x z _ = ap (turn x z) is in
      ap (λ b. b && nat_lt 0 (turn x z s).taken) (turn-goes l stops x z s go) ∙ lt-ltb 0 (turn x z s).taken (omega (arith, led.some, led.front.taken, ap (λ (o : Outcome (Bool × (Bool × ℕ))). o.taken) same))

  -- A turn that isn't stopped notes only its end.
  one-mark : (x : Bool × ℕ) (z : Place) (s : Point) → ends stops x.1 (as_at_hand (hand_of l z s)).kind ≡ false → InTurn (EndsNth turn x z s) 1 2 (turn x z s).asks
  one-mark x z s go =
      let o = turn x z s in
      let P = EndsNth turn x z s in
      let d = run l (deeper (MarkupExpr x.0 x.1) x.1) z (asked (hand_of l z s) s) in
      let there = moved d.taken z in
      let after = asked (hand_of l there d.state) d.state in
      let looks = hand_asks_of l there after in
      let quiet = marks-shift Deeper o.taken looks (none-hand Deeper l.classes after.held after.known there) in
      let own : P 1 o.taken (gap_of o.state.known) (mark.Piece o.value.1.0 o.value.1.1) (state_of o.state) = record { at_is = omega arith; gap_is = refl; says = refl; state_is = refl } in
      let early = hand_asks_of l z s ++ (d.asks ++ shift d.taken (hand_asks_of l there d.state)) in
      let last : InTurn P 1 2 (piece_mark o.taken o.value.1 o.state ∷ shift o.taken looks) = (own, turn-none P 2 (shift o.taken looks) quiet) in
      subst (λ u. InTurn P 1 2 u) (sym (turn-asks l stops x z s go))
      (turn-append P 1 1 2 early (shift o.taken looks ++ piece_mark o.taken o.value.1 o.state ∷ shift o.taken looks) (turn-none P 1 early (early-marks l stops x z s Deeper taking.level_left (λ at fewer m p. omega arith)))
      (turn-append P 1 1 2 (shift o.taken looks) _ (turn-none P 1 (shift o.taken looks) quiet) last))

  turn-by-end : (n : ℕ) (x : Bool × ℕ) (z : Place) (s : Point) → KnownAt s → bound z s < suc n → ((y : Bool × ℕ) (w : Place) (p : Point) → KnownAt p → bound w p < n → TurnMarks turn y w p (turns turn n y w p).asks)
      → (b : Bool) → ends stops x.1 (as_at_hand (hand_of l z s)).kind ≡ b → TurnMarks turn x z s (turns turn (suc n) x z s).asks
  turn-by-end n x z s known h rest true e =
      let o = turn x z s in
      let stopped : goes o ≡ false = ap (λ b. b && nat_lt 0 o.taken) (stopped-is l stops x z s e) in
      let is : (turns turn (suc n) x z s).asks ≡ hand_asks_of l z s ++ [] =
      ap (λ (u : Outcome (Bool × ℕ)). u.asks) (if-false (goes o) _ (as_last o) stopped) ∙ stopped-asks l stops x z s e in
      let quiet = marks-append Deeper (hand_asks_of l z s) [] (none-hand Deeper l.classes s.held s.known z) tt in
      record { count = 0; go = tt; over = stopped; marks = subst (λ u. InTurn (EndsNth turn x z s) 1 1 u) (sym is) (turn-none (EndsNth turn x z s) 1 (hand_asks_of l z s ++ []) quiet) }
  turn-by-end n x z s known h rest false e =
      let o = turn x z s in
      let y = moved o.taken z in
      let P = EndsNth turn x z s in
      let g = goes-on x z s known e in
      let some : 0 < o.taken = ltb-true 0 o.taken (and-second o.value.0 (nat_lt 0 o.taken) g) in
      let most = (sane-run l taking.calls_sane taking.blocks_sane (markup_turn true stops x)).within z s in
      let more = turns turn n o.value.1 y o.state in
      let is : (turns turn (suc n) x z s).asks ≡ o.asks ++ shift o.taken more.asks = ap (λ (u : Outcome (Bool × ℕ)). u.asks) (if-true (goes o) (joined o more) (as_last o) g) in
      let r = rest o.value.1 y o.state (turn-known l stops x z s (turn-goes l stops x z s e)) (omega (arith, h, some, most)) in
      let c = r.count in
      let end = end_of o.value.1 o.state (made turn c o.value.1 y o.state) in
      let later = turn-next (EndsNth turn o.value.1 y o.state) (λ i at gap m p. P i (o.taken + at) gap m p)
      (λ i at gap m p hh. (let there = hh.at_is in record { at_is = ap (λ a. o.taken + a) there; gap_is = hh.gap_is; says = hh.says; state_is = hh.state_is })) 1 (suc c) more.asks r.marks in
      record {
        count = suc c;
        go = (g, r.go);
        over = ap (λ w. goes (turn end.value w end.state)) (moved-sum o.taken end.taken z) ∙ r.over;
        marks = subst (λ u. InTurn P 1 (suc (suc c)) u) (sym is) (turn-append P 1 2 (suc (suc c)) o.asks (shift o.taken more.asks) (one-mark x z s e) (turn-shift P o.taken 2 (suc (suc c)) more.asks later));
      }

  turn-in : (n : ℕ) (x : Bool × ℕ) (z : Place) (s : Point) → KnownAt s → bound z s < n → TurnMarks turn x z s (turns turn n x z s).asks
  turn-in zero x z s known h = absurd (omega (arith, h))
  turn-in (suc n) x z s known h = turn-by-end n x z s known h (turn-in n) (ends stops x.1 (as_at_hand (hand_of l z s)).kind) refl

  pub run-in : (x : Bool × ℕ) (z : Place) (s : Point) → KnownAt s → TurnMarks turn x z s (repeated turn x z s).asks
  unfolding repeated
  run-in x z s known = turn-in (suc (bound z s)) x z s known (omega arith)

-- with where the token after them begins, from the start of the run on
pub record CutsNth (m : Bool × ℕ → Meaning (Bool × (Bool × ℕ))) (x : Bool × ℕ) (z : Place) (s : Point) (from i at gap : ℕ) (what : Mark) (state : State) : Type 0 where
  pub at_is : at ≡ from + (end_of x s (made m i x z s)).taken
  pub cut : at + gap ≡ from + cut_after i (end_of x s (made m i x z s))
  pub says : (let e = end_of x s (made m i x z s) in what ≡ mark.Piece e.value.0 e.value.1)
  pub state_is : state ≡ state_of (end_of x s (made m i x z s)).state

pub cut-from : (d i : ℕ) (u : End (Bool × ℕ)) → cut_after i (record u { taken = d + u.taken }) ≡ d + cut_after i u
cut-from d zero u = refl
cut-from d (suc i) u = omega arith

-- what such a note says
says-of : (m : Bool × ℕ → Meaning (Bool × (Bool × ℕ))) (x : Bool × ℕ) (z : Place) (s : Point) (d : ℕ) (text : List ℕ) (e : ℕ → End (Bool × ℕ)) (i : ℕ) (note : Note)
    → e i ≡ (let u = end_of x s (made m i x z s) in record u { taken = d + u.taken })
    → NoteNth (λ j at gap what state. CutsNth m x z s d j at gap what state) (start_of text) i note → SaysOf text e i note
unfolding position
says-of m x z s d text e i note same n =
    let u = end_of x s (made m i x z s) in
    let v : End (Bool × ℕ) = record u { taken = d + u.taken } in
    let w = start_of text in
    let h = n.holds in
    let says : Says text note v = record { mark = n.mark ∙ h.says; before = n.before ∙ width-moved n.at text ∙ ap (λ a. width (take a text)) h.at_is; state = n.state ∙ h.state_is } in
    let begins : note.start ≡ width (take (cut_after i v) text) =
    n.start ∙ ap (λ (y : Place). width y.before) (sym (moved-sum n.at n.gap w)) ∙ width-moved (n.at + n.gap) text ∙ ap (λ a. width (take a text)) (h.cut ∙ sym (cut-from d i u)) in
    let both = subst (λ (y : End (Bool × ℕ)). Says text note y × (note.start ≡ width (take (cut_after i y) text))) (sym same) (says, begins) in
    record { says = both.0; start = both.1 }

from-start : (u : End (Bool × ℕ)) → u ≡ record u { taken = 0 + u.taken }
from-start u = ap (λ n. record u { taken = n }) (omega arith)

-- ---- a text's run

pub numbered-run-law : NumberedRunLaw
unfolding log run
numbered-run-law k text =
    let z = start_of text in
    let s = (lead k z).state in
    let q = repeated (piece_at k) (true, 0) z s in
    let t = tail k q.taken q.state z in
    let is = ap (λ (o : Outcome (Unit {0})). o.asks) (whole-is k text) ∙ whole-asks k z q t in
    let r = run-in (level_at k max_depth) is_end (text-taking k) (true, 0) z s (record { trivia = _; is = refl }) in
    let P = λ (i at gap : ℕ) (m : Mark) (p : State). CutsNth (piece_at k) (true, 0) z s 0 i at gap m p in
    let c = suc r.count in
    let first = turn-none P 1 (lead k z).asks (none-hand Deeper k start.held start.known z) in
    let own = turn-by (EndsNth (piece_at k) (true, 0) z s) P (λ i at gap m p g. (let there = g.at_is in let behind = g.gap_is in record { at_is = omega (arith, there); cut = omega (arith, there, behind); says = g.says; state_is = g.state_is })) 0 c q.asks r.marks in
    let last = turn-none P c (shift q.taken t.asks) (marks-shift Deeper q.taken t.asks (flush-marks Deeper (level_at k max_depth) (moved q.taken z) q.state)) in
    let marks = subst (λ u. InTurn P 0 c u) (sym is)
    (record { at_is = refl; cut = refl; says = refl; state_is = refl }, turn-append P 1 c c ((lead k z).asks ++ q.asks) _ (turn-append P 1 1 c (lead k z).asks q.asks first own) last) in
    let asks = (parsed k max_depth text).asks in
    let n = noted-nth P 255 z asks 0 none_yet 0 c marks in
    let notes = fresh_notes max_depth z asks in
    let there : listed (log k text).notes ≡ notes = logged-listed max_depth z asks in
    let own_notes = sym (ap (of_level max_depth) there) in
    let all_are : length (of_level max_depth notes) ≡ c = omega (arith, n.all) in
    record {
      count = r.count;
      go = r.go;
      over = r.over;
      all = subst (λ ns. length ns ≡ c) own_notes all_are;
      each = subst (λ ns. Numbered (SaysOf text (λ i. first_end i (text_run k z))) 0 ns) own_notes (numbered-by (NoteNth P z) _ (λ i note h. says-of (piece_at k) (true, 0) z s 0 text (λ j. first_end j (text_run k z)) i note (from-start (first_end i (text_run k z))) h) 0 (of_level max_depth notes) n.each);
    }

-- ---- a content block's run

module _ (k : CharClasses) (levels : ℕ) (z : Place) (s : Point) where
  abbrev the_run : Sequence
  the_run = inner_run k levels z s

  abbrev opened : ℕ
  opened = (bracket k levels z s).taken

  -- the marks of a number, counted from where the block begins
  abbrev Cut : ℕ → ℕ → ℕ → ℕ → Mark → State → Type 0
  Cut from i at gap m p = CutsNth (turn_of the_run) (true, 0) the_run.place the_run.point from i at gap m p

  block-turns : TurnMarks (turn_of the_run) (true, 0) the_run.place the_run.point (repeated (turn_of the_run) (true, 0) the_run.place the_run.point).asks
  unfolding run
  block-turns =
      let r = the_run in
      run-in (inner k levels) ends_block (block-taking k levels) (true, 0) r.place r.point (record { trivia = _; is = refl })

  block-cuts : InTurn (λ i at gap m p. Cut opened i at gap m p) 0 (suc block-turns.count) (block_at k (suc levels) block.Content z s).asks
  unfolding run
  block-cuts =
      let r = the_run in
      let o = repeated (turn_of r) (true, 0) r.place r.point in
      let t = inner_tail k levels o.taken o.state r.place in
      let close = inner_close k levels (o.taken + t.taken) t.state r.place in
      let is = ap (λ (u : Outcome (Unit {0})). u.asks) (content-is k levels z s) ∙ content-asks k levels z s o t close in
      let c = suc block-turns.count in
      let P = λ (i at gap : ℕ) (m : Mark) (p : State). Cut opened i at gap m p in
      let Q = λ (i at gap : ℕ) (m : Mark) (p : State). Cut opened i (opened + at) gap m p in
      let b = bracket k levels z s in
      let ls = (inner_lead k levels z s).asks in
      let first = turn-none Q 1 ls (none-hand Deeper k b.state.held b.state.known r.place) in
      let own = turn-by (EndsNth (turn_of r) (true, 0) r.place r.point) Q (λ i at gap m p g. (let there = g.at_is in let after = g.gap_is in record { at_is = omega (arith, there); cut = omega (arith, there, after); says = g.says; state_is = g.state_is })) 0 c o.asks block-turns.marks in
      let behind = t.asks ++ shift t.taken close.asks in
      let last = marks-shift Deeper o.taken behind (marks-append Deeper t.asks (shift t.taken close.asks) (flush-marks Deeper (inner k levels) (moved o.taken r.place) o.state)
      (marks-shift Deeper t.taken close.asks (none-close Deeper (inner k levels) (moved (o.taken + t.taken) r.place) (after_node false [] t.state)))) in
      let all = run_mark k levels z s ∷ ((ls ++ o.asks) ++ shift o.taken behind) in
      let mark_is : Q 0 0 0 (mark.Piece true 0) (state_of b.state) = record { at_is = refl; cut = omega arith; says = refl; state_is = refl } in
      let in_run : InTurn Q 0 c all = (mark_is, turn-append Q 1 c c (ls ++ o.asks) (shift o.taken behind) (turn-append Q 1 1 c ls o.asks first own) (turn-none Q c (shift o.taken behind) last)) in
      subst (λ u. InTurn P 0 c u) (sym is) (turn-append P 0 0 c (asks_before k levels z s) (shift opened all) (turn-none P 0 (asks_before k levels z s) (before-marks k levels Deeper z s)) (turn-shift P opened 0 c all in_run))

-- counted from a given number of characters before
nth-moved : (m : Bool × ℕ → Meaning (Bool × (Bool × ℕ))) (x : Bool × ℕ) (y : Place) (s : Point) (a d i : ℕ) (z : Place) (note : Note)
    → NoteNth (λ j at gap what state. CutsNth m x y s d j at gap what state) (moved a z) i note → NoteNth (λ j at gap what state. CutsNth m x y s (a + d) j at gap what state) z i note
nth-moved m x y s a d i z note n =
    record {
      at = a + n.at;
      gap = n.gap;
      says = n.says;
      told = n.told;
      holds = record { at_is = omega (arith, n.holds.at_is); cut = omega (arith, n.holds.cut); says = n.holds.says; state_is = n.holds.state_is };
      mark = n.mark;
      before = n.before ∙ ap position (sym (moved-sum a n.at z));
      start = n.start ∙ ap (λ w. position (moved n.gap w)) (sym (moved-sum a n.at z));
      state = n.state;
    }

-- the notes of a content block by their numbers, which are nested, and as many as are made before the block and in it
pub record NestedNumbers (k : CharClasses) (levels : ℕ) (text : List ℕ) (c : Spot (Unit {0})) : Type 0 where
  pub numbers : NumberedInner k levels text c
  pub nested : Nested (suc levels) numbers.inner
  pub number : notes_in c.before ≡ suc (length numbers.earlier)
  pub long : length numbers.inner ≡ notes_in (unit_at c (start_of text)).asks
  pub asks : (unit_at c (start_of text)).asks ≡ (block_at k (suc levels) block.Content (moved c.at (start_of text)) (point_of c.start)).asks

pub nested-numbers : (k : CharClasses) (levels : ℕ) (text : List ℕ) (c : Spot (Unit {0})) → Among c (blocks_of_text k text) → c.name ≡ block.Content → max_depth - c.fewer ≡ suc levels → NestedNumbers k levels text c
unfolding blocks_of_text log position
nested-numbers k levels text c chosen name left =
    let z = start_of text in
    let d = block-log k text c chosen in
    let b0 = d.notes in
    let s = point_of c.start in
    let y = moved c.at z in
    let u = unit_at c z in
    let reads = content-reads k text c chosen levels name left z in
    let b = opened k levels y s in
    let turns_are = block-turns k levels y s in
    let n = suc turns_are.count in
    let P = λ (i at gap : ℕ) (m : Mark) (p : State). Cut k levels y s b i at gap m p in
    let marks = subst (λ (v : Outcome (Unit {0})). InTurn P 0 n v.asks) (sym reads) (block-cuts k levels y s) in
    let inner = fresh_notes (suc levels) y u.asks in
    let inner_is : b0.inner ≡ inner = d.inner_is ∙ ap (λ v. fresh_notes v y u.asks) left in
    let two = noted-nth P levels y u.asks 0 none_yet 0 n marks in
    record {
      numbers = record {
        earlier = b0.earlier;
        opens = b0.opens;
        inner = inner;
        closes = b0.closes;
        later = b0.later;
        notes = b0.notes ∙ ap (λ ns. Some (b0.earlier ++ b0.opens ∷ (ns ++ b0.closes ∷ b0.later))) inner_is;
        name = b0.name;
        start = b0.start;
        levels_there = b0.levels_there ∙ left;
        state = d.state;
        name_end = b0.name_end;
        end = b0.end;
        levels_end = b0.levels_end ∙ left;
        count = turns_are.count;
        go = turns_are.go;
        over = turns_are.over;
        all = omega (arith, two.all);
        each = numbered-by (NoteNth P y) _
            (λ i note h. says-of (turn_of (run_at k levels c z)) (true, 0) (run_at k levels c z).place (run_at k levels c z).point (opened_at k levels c z) text (λ j. inner_end k levels j c z) i note refl
            (nth-moved (turn_of (run_at k levels c z)) (true, 0) (run_at k levels c z).place (run_at k levels c z).point c.at b i z note h)) 0 (of_level (suc levels) inner) two.each;
      };
      nested = subst (λ ns. Nested (suc levels) ns) inner_is (subst (λ v. Nested v b0.inner) left b0.nested);
      number = b0.number;
      long = ap length (sym inner_is) ∙ b0.long;
      asks = ap (λ (v : Outcome (Unit {0})). v.asks) reads;
    }

pub numbered-inner-law : NumberedInnerLaw
numbered-inner-law k levels text c chosen name left = (nested-numbers k levels text c chosen name left).numbers

-- ---- the number of a note where pieces of a run end

-- ---- notes

level-by : (b : Bool) (n : Note) (xs ys zs : List Note) → xs ≡ ys ++ zs → (if b then n ∷ xs else xs) ≡ (if b then n ∷ ys else ys) ++ zs
level-by true n xs ys zs e = ap (λ us. n ∷ us) e
level-by false n xs ys zs e = e

pub level-append : (lv : ℕ) (ms ns : List Note) → of_level lv (ms ++ ns) ≡ of_level lv ms ++ of_level lv ns
level-append lv [] ns = refl
level-append lv (m ∷ ms) ns = level-by (m.levels == lv) m (of_level lv (ms ++ ns)) (of_level lv ms) (of_level lv ns) (level-append lv ms ns)

pub level-at : (lv : ℕ) (ms : List Note) (n : Note) (ns : List Note) → n.levels ≡ lv → of_level lv (ms ++ n ∷ ns) ≡ of_level lv ms ++ n ∷ of_level lv ns
level-at lv ms n ns e = level-append lv ms (n ∷ ns) ∙ ap (λ us. of_level lv ms ++ us) (if-true (n.levels == lv) _ _ (eq-eqb n.levels lv e))

pub level-long : (lv : ℕ) (ms : List Note) (n : Note) (ns : List Note) → n.levels ≡ lv → length (of_level lv (ms ++ n ∷ ns)) ≡ length (of_level lv ms) + suc (length (of_level lv ns))
level-long lv ms n ns e = ap length (level-at lv ms n ns e) ∙ length-append (of_level lv ms) (n ∷ of_level lv ns)

-- The note after a given number of notes has that number.
pub numbered-at : (P : ℕ → Note → Type 0) (i : ℕ) (ms : List Note) (n : Note) (ns : List Note) → Numbered P i (ms ++ n ∷ ns) → P (i + length ms) n
numbered-at P i [] n ns h = subst (λ j. P j n) (omega arith) h.0
numbered-at P i (m ∷ ms) n ns h = subst (λ j. P j n) (omega arith) (numbered-at P (suc i) ms n ns h.1)

-- ---- turns

module _ {A : Type 0} (m : A → Meaning (Bool × A)) where
  -- If so many go on, fewer of them do too.
  pub go-fewer : (i n : ℕ) (x : A) (z : Place) (s : Point) → i ≤ n → AllGo (made m n x z s) → AllGo (made m i x z s)
  go-fewer zero n x z s l g = tt
  go-fewer (suc i) zero x z s l g = absurd (omega (arith, l))
  go-fewer (suc i) (suc n) x z s l g = let o = m x z s in (g.0, go-fewer i n o.value.1 (moved o.taken z) o.state (omega (arith, l)) g.1)

  -- Fewer of them take no more.
  pub least-taken : (i n : ℕ) (x : A) (z : Place) (s : Point) → i ≤ n → (end_of x s (made m i x z s)).taken ≤ (end_of x s (made m n x z s)).taken
  least-taken zero n x z s l = omega arith
  least-taken (suc i) zero x z s l = absurd (omega (arith, l))
  least-taken (suc i) (suc n) x z s l = let o = m x z s in let more = least-taken i n o.value.1 (moved o.taken z) o.state (omega (arith, l)) in omega (arith, more)

  -- The turn after the first ones goes on if more do.
  pub go-next : (n : ℕ) (x : A) (z : Place) (s : Point) → AllGo (made m (suc n) x z s) → (let e = end_of x s (made m n x z s) in goes (m e.value (moved e.taken z) e.state) ≡ true)
  go-next zero x z s g = g.0
  go-next (suc n) x z s g =
      let o = m x z s in
      let e = end_of o.value.1 o.state (made m n o.value.1 (moved o.taken z) o.state) in
      ap (λ w. goes (m e.value w e.state)) (moved-sum o.taken e.taken z) ∙ go-next n o.value.1 (moved o.taken z) o.state g.1

  -- More of them take more.
  pub more-taken : (i n : ℕ) (x : A) (z : Place) (s : Point) → i < n → AllGo (made m n x z s) → (end_of x s (made m i x z s)).taken < (end_of x s (made m n x z s)).taken
  more-taken i zero x z s l g = absurd (omega (arith, l))
  more-taken zero (suc n) x z s l g = let o = m x z s in let some : 0 < o.taken = ltb-true 0 o.taken (and-second o.value.0 (nat_lt 0 o.taken) g.0) in omega (arith, some)
  more-taken (suc i) (suc n) x z s l g = let o = m x z s in let more = more-taken i n o.value.1 (moved o.taken z) o.state (omega (arith, l)) g.1 in omega (arith, more)

module _ {A : Type 0} (m : A → Meaning (Bool × A)) (within : (x : A) → Within (m x)) where
  -- They take no more than there is, with the trivia after them.
  pub turns-within : (n : ℕ) (x : A) (z : Place) (s : Point) → (let e = end_of x s (made m n x z s) in e.taken + gap_of e.state.known ≤ bound z s)
  turns-within zero x z s = omega arith
  turns-within (suc n) x z s = let o = m x z s in let most = within x z s in let more = turns-within n o.value.1 (moved o.taken z) o.state in omega (arith, most, more)

-- ---- the law

pub number-law : NumberLaw
unfolding run
number-law k text i g p =
    let z = start_of text in
    let s = (lead k z).state in
    let m = piece_at k in
    let says = SaysOf text (λ n. first_end n (text_run k z)) in
    let numbered = numbered-run-law k text in
    let before = of_level max_depth p.earlier in
    let behind = of_level max_depth p.later in
    let j = length before in
    let own : of_level max_depth (p.note ∷ p.later) ≡ p.note ∷ behind = if-true (p.note.levels == max_depth) _ _ (eq-eqb p.note.levels max_depth p.levels) in
    let split : of_level max_depth (listed (log k text).notes) ≡ before ++ p.note ∷ behind =
    ap (λ ns. of_level max_depth (listed ns)) p.notes ∙ level-append max_depth p.earlier (p.note ∷ p.later) ∙ ap (λ ns. before ++ ns) own in
    let there = numbered-at says 0 before p.note behind (subst (λ ns. Numbered says 0 ns) split numbered.each) in
    let zero_more : 0 + j ≡ j = omega arith in
    let fits : j ≤ numbered.count = omega (arith, numbered.all, ap length split, length-append before (p.note ∷ behind)) in
    let go_j : AllGo (first_of j (text_run k z)) = go-fewer m j numbered.count (true, 0) z s fits numbered.go in
    let at_i = (first_end i (text_run k z)).taken in
    let at_j = (first_end j (text_run k z)).taken in
    let same : width (take at_i text) ≡ width (take at_j text) = sym p.before ∙ (subst (λ n. says n p.note) zero_more there).says.before in
    let known = (sane-at (rules k) k max_depth peek).within z start in
    let room_i : at_i ≤ length text = omega (arith, known, turns-within m (within k) i (true, 0) z s) in
    let room_j : at_j ≤ length text = omega (arith, known, turns-within m (within k) j (true, 0) z s) in
    neither j i
    (λ l. (let more = take-longer at_j at_i text (more-taken m j i (true, 0) z s l g) room_i in omega (arith, more, same)))
    (λ l. (let more = take-longer at_i at_j text (more-taken m i j (true, 0) z s l go_j) room_j in omega (arith, more, same)))
