-- The notes where pieces of a run end, and what their numbers say.
use Rattle.typst_edits.proofs.Cited.{◌≡◌, ◌==◌, ℕ, zero, suc, ◌+◌, ◌-◌, ◌<◌, ◌≤◌, ◌^◌, max, Bool, true, false, ◌&&◌, nat_lt, List, [], ◌∷◌, ◌++◌, length, take, append_assoc, append-nil, Some, refl, ap, sym, ◌∙◌, subst, arith, and_parts, map-append, SyntaxKind, Place, moved, CharClasses, width, position, MarkupExpr, Mark, Note, State, Ask, shift, shift_one, sunk, marked, deeper, AtHand, as_at_hand, known_by, no_log, logged, Outcome, Meaning, Level, plain, joined, repeated, hand_of, hand_asks_of, asked, start_point, run, Trivia, Point, gap_of, state_of, note, hand-again, moved-sum, ends, note_piece, markup_turn, markup_reading, rules, max_depth, start_of, whole, parsed, log, highest, lowest, AllEndBy, made, AllGo, end_of, asks_of, chain, Noting, notes_in, Sequence, turn_of, on_both, made-sum, both_ways, false_from_ne_true, if-true, if-false, end-append, go-append}
use Rattle.typst_edits.specs.Splice.{noting as as_ask}
use Rattle.typst_language.specs.declared.calls.Mark.TheVariants as mark
use Rattle.typst_edits.proofs.Bytes.{AllReach, end-by, end-to, AllFrom, none_yet, fresh_notes, next_note, noted-length, logged-notes, logged-least, notes-around, least-around, reach-by, reach-to, least-by, least-to, AllMarks, marks-append, marks-shift, marks-sunk, none-hand}
use Rattle.typst_edits.proofs.Outcomes.{shift-zero, shift-twice, shift-append}
use Rattle.typst_edits.proofs.Widths.{width-moved}
use Rattle.typst_edits.proofs.Within.{AllAt, in-level, at-most}
use Rattle.typst_edits.proofs.Looks.{looks-first, looks-second}

-- the first of two tests that both pass
pub first-of : (a b : Bool) → (a && b) ≡ true → a ≡ true
first-of a b both = (and_parts a b both).0

-- some trivia are known at a point
pub record KnownAt (s : Point) : Type 0 where
  pub trivia : Trivia
  pub is : s.known ≡ Some trivia

-- ---- where a piece ends

-- the note where pieces end, a given number of characters further on
abbrev pub piece_mark : ℕ → Bool × ℕ → Point → Ask
piece_mark at x s = marked at (gap_of s.known) 0 (mark.Piece x.0 x.1) (state_of s)

-- What was asked up to a place ends with a note of a piece between these looks, which are made twice.
pub record Ends (asks : List Ask) (at : ℕ) (x : Bool × ℕ) (s : Point) (looks : List Ask) : Type 0 where
  pub early : List Ask
  pub is : asks ≡ early ++ (shift at looks ++ piece_mark at x s ∷ shift at looks)

module _ (l : Level) (stops : SyntaxKind → Bool) (x : Bool × ℕ) (z : Place) (s : Point) where
  abbrev ahead : AtHand
  ahead = as_at_hand (hand_of l z s)

  -- a piece, by what is read one level deeper
  abbrev deep : Outcome ℕ
  deep = run l (deeper (MarkupExpr x.0 x.1) x.1) z (asked (hand_of l z s) s)

  abbrev there : Place
  there = moved deep.taken z

  abbrev after : Point
  after = asked (hand_of l there deep.state) deep.state

  abbrev carried : Bool × ℕ
  carried = ((as_at_hand (hand_of l there deep.state)).newlines.any, deep.value)

  again : asked (hand_of l there after) after ≡ after
  again = ap (λ h. record deep.state { known = known_by h }) (hand-again l.classes deep.state.held deep.state.known there)

  -- what it asks, and where it ends
  abbrev last : Point
  last = asked (hand_of l there (asked (hand_of l there after) after)) (asked (hand_of l there after) after)

  abbrev peeked : Place → Point → Outcome AtHand
  peeked w r = record (plain (as_at_hand (hand_of l w r)) (asked (hand_of l w r) r)) { asks = hand_asks_of l w r }

  abbrev noting : Outcome (Unit {0})
  noting =
      let t = asked (hand_of l there after) after in
      joined (peeked there after) (joined (record (plain (tt {0}) t) { asks = marked 0 (gap_of t.known) 0 (mark.Piece carried.0 carried.1) (state_of t) ∷ [] }) (joined (peeked there t) (plain (tt {0}) last)))

  abbrev gone : Outcome (Bool × (Bool × ℕ))
  gone = joined (peeked z s) (joined deep (joined (peeked there deep.state) (joined noting (plain (true, carried) last))))

  turn-is : ends stops x.1 ahead.kind ≡ false → run l (markup_turn true stops x) z s ≡ gone
  unfolding run markup_turn note_piece note
  turn-is h = ap (joined (peeked z s)) (if-false (ends stops x.1 ahead.kind) _ _ h)

  pub stopped-is : ends stops x.1 ahead.kind ≡ true → (run l (markup_turn true stops x) z s).value.0 ≡ false
  unfolding run markup_turn
  stopped-is h = ap (λ (o : Outcome (Bool × (Bool × ℕ))). o.value.0) (if-true (ends stops x.1 ahead.kind) _ _ h)

  last-is : last ≡ after
  last-is = ap (λ t. asked (hand_of l there t) t) again ∙ again

  -- what is asked in it before the last looks
  abbrev early_asks : List Ask
  early_asks = hand_asks_of l z s ++ (deep.asks ++ shift deep.taken (hand_asks_of l there deep.state))

  gone-asks : (let looks = hand_asks_of l there after in gone.asks ≡ early_asks ++ (shift gone.taken looks ++ piece_mark gone.taken carried last ∷ shift gone.taken looks))
  gone-asks =
      let looks = hand_asks_of l there after in
      let t = asked (hand_of l there after) after in
      let d = deep.taken in
      let mk = marked 0 (gap_of t.known) 0 (mark.Piece carried.0 carried.1) (state_of t) in
      let third = hand_asks_of l there t in
      let from_mark = mk ∷ shift 0 (third ++ []) in
      let own : (looks ++ shift 0 from_mark) ++ [] ≡ looks ++ mk ∷ looks =
      append-nil (looks ++ shift 0 from_mark) ∙ ap (λ ls. looks ++ ls) (shift-zero from_mark ∙ ap (λ ls. mk ∷ ls) (shift-zero (third ++ []) ∙ append-nil third ∙ ap (hand_asks_of l there) again)) in
      let all : gone.asks ≡ early_asks ++ (shift d looks ++ shift_one d mk ∷ shift d looks) =
      ap (λ ls. hand_asks_of l z s ++ shift 0 (deep.asks ++ shift d (hand_asks_of l there deep.state ++ shift 0 ls))) own ∙ simp (shift-zero, shift-append, append_assoc) in
      let at_is : d + 0 ≡ d = omega arith in
      let took : d ≡ 0 + (d + (0 + ((0 + (0 + (0 + 0))) + 0))) = omega arith in
      grind (arith, again, last-is)

  gone-ends : Ends gone.asks gone.taken gone.value.1 gone.state (hand_asks_of l (moved gone.taken z) gone.state)
  gone-ends = grind (arith, last-is, gone-asks)

  -- what a stopped one asks
  pub stopped-asks : ends stops x.1 ahead.kind ≡ true → (run l (markup_turn true stops x) z s).asks ≡ hand_asks_of l z s ++ []
  unfolding run markup_turn
  stopped-asks h = ap (λ (o : Outcome (Bool × (Bool × ℕ))). o.asks) (ap (joined (peeked z s)) (if-true (ends stops x.1 ahead.kind) _ _ h))

  pub turn-goes : ends stops x.1 ahead.kind ≡ false → (run l (markup_turn true stops x) z s).value.0 ≡ true
  turn-goes h = ap (λ (o : Outcome (Bool × (Bool × ℕ))). o.value.0) (turn-is h)

  -- its marks: one at its end, and those of what is read one level deeper
  deep-marks : (P : ℕ → ℕ → Mark → State → Type 0) → (l.levels == 0) ≡ false → ((at fewer : ℕ) (m : Mark) (p : State) → P at (suc fewer) m p) → AllMarks P deep.asks
  unfolding run deeper
  deep-marks P some f =
      let p = asked (hand_of l z s) s in
      let called = (l.deeper (MarkupExpr x.0 x.1) (moved 0 z) p).asks in
      let is : deep.asks ≡ shift 0 (sunk called) = ap (λ (o : Outcome ℕ). shift 0 o.asks) (if-false (l.levels == 0) _ _ some) in
      subst (λ u. AllMarks P u) (sym is) (marks-shift P 0 (sunk called) (marks-sunk (λ at fewer m p. P (0 + at) fewer m p) (λ at fewer m p. f (0 + at) fewer m p) called))

  -- by what it asks before its last looks, none of which notes anything on the piece's own level
  pub turn-asks : ends stops x.1 ahead.kind ≡ false → (let o = run l (markup_turn true stops x) z s in let looks = hand_asks_of l there after in o.asks ≡ early_asks ++ (shift o.taken looks ++ piece_mark o.taken o.value.1 o.state ∷ shift o.taken looks))
  turn-asks go = grind (arith, turn-is, gone-asks)

  pub early-marks : (P : ℕ → ℕ → Mark → State → Type 0) → (l.levels == 0) ≡ false → ((at fewer : ℕ) (m : Mark) (p : State) → P at (suc fewer) m p) → AllMarks P early_asks
  early-marks P some f =
      let second = hand_asks_of l there deep.state in
      marks-append P (hand_asks_of l z s) _ (none-hand P l.classes s.held s.known z)
      (marks-append P deep.asks (shift deep.taken second) (deep-marks P some f)
      (marks-shift P deep.taken second (none-hand (λ at fewer m p. P (deep.taken + at) fewer m p) l.classes deep.state.held deep.state.known there)))

  -- A piece that goes on isn't stopped.
  pub going-on : (run l (markup_turn true stops x) z s).value.0 ≡ true → ends stops x.1 ahead.kind ≡ false
  going-on h = false_from_ne_true (ends stops x.1 ahead.kind) (λ e. both_ways _ (stopped-is e) h)

  pub turn-ends : (run l (markup_turn true stops x) z s).value.0 ≡ true → (let o = run l (markup_turn true stops x) z s in Ends o.asks o.taken o.value.1 o.state (hand_asks_of l (moved o.taken z) o.state))
  turn-ends h = subst (λ (o : Outcome (Bool × (Bool × ℕ))). Ends o.asks o.taken o.value.1 o.state (hand_asks_of l (moved o.taken z) o.state)) (sym (turn-is (going-on h))) gone-ends

  -- the trivia after it are known
  pub turn-known : (run l (markup_turn true stops x) z s).value.0 ≡ true → KnownAt (run l (markup_turn true stops x) z s).state
  turn-known h = subst (λ (o : Outcome (Bool × (Bool × ℕ))). KnownAt o.state) (sym (turn-is (going-on h))) (record { trivia = _; is = refl })

-- ---- several pieces

-- where they end, trivia are known
pub known-made : (l : Level) (stops : SyntaxKind → Bool) (n : ℕ) (x : Bool × ℕ) (z : Place) (s : Point) → (let m = λ (y : Bool × ℕ). run l (markup_turn true stops y) in KnownAt s → AllGo (made m n x z s) → KnownAt (end_of x s (made m n x z s)).state)
known-made l stops zero x z s known g = known
known-made l stops (suc n) x z s known g =
    let o = run l (markup_turn true stops x) z s in
    known-made l stops n o.value.1 (moved o.taken z) o.state (turn-known l stops x z s (first-of o.value.0 (nat_lt 0 o.taken) g.0)) g.1

later-ends : (asks ls looks : List Ask) (a b : ℕ) (x : Bool × ℕ) (s : Point) → Ends asks b x s looks → Ends (ls ++ shift a asks) (a + b) x s looks
later-ends asks ls looks a b x s e = record { early = ls ++ shift a e.early; is = simp (e.is, map-append, shift-twice, append_assoc) }

module _ (m : Bool × ℕ → Meaning (Bool × (Bool × ℕ))) (looks : Place → Point → List Ask)
    (each : (x : Bool × ℕ) (z : Place) (s : Point) → (m x z s).value.0 ≡ true → (let o = m x z s in Ends o.asks o.taken o.value.1 o.state (looks (moved o.taken z) o.state))) where
  -- the last of several pieces ends so
  pub made-ends : (n : ℕ) (x : Bool × ℕ) (z : Place) (s : Point) → AllGo (made m (suc n) x z s) → (let os = made m (suc n) x z s in let e = end_of x s os in Ends (asks_of os) e.taken e.value e.state (looks (moved e.taken z) e.state))
  made-ends zero x z s g = grind (arith, append-nil, first-of)
  made-ends (suc n) x z s g =
      let o = m x z s in
      let os = made m (suc n) o.value.1 (moved o.taken z) o.state in
      let e = end_of o.value.1 o.state os in
      subst (λ w. Ends (o.asks ++ shift o.taken (asks_of os)) (o.taken + e.taken) e.value e.state (looks w e.state)) (sym (moved-sum o.taken e.taken z))
      (later-ends (asks_of os) o.asks (looks (moved e.taken (moved o.taken z)) e.state) o.taken e.taken e.value e.state (made-ends n o.value.1 (moved o.taken z) o.state g.1))

  -- pieces after others
  pub made-add : (i n : ℕ) (x : Bool × ℕ) (z : Place) (s : Point) → (let e = end_of x s (made m i x z s) in let f = end_of e.value e.state (made m n e.value (moved e.taken z) e.state) in
      end_of x s (made m (i + n) x z s) ≡ record f { taken = e.taken + f.taken })
  made-add i n x z s = grind (arith, made-sum, end-append)

  pub go-add : (i n : ℕ) (x : Bool × ℕ) (z : Place) (s : Point) → AllGo (made m i x z s) → (let e = end_of x s (made m i x z s) in AllGo (made m n e.value (moved e.taken z) e.state) → AllGo (made m (i + n) x z s))
  go-add i n x z s g h = grind (arith, made-sum, go-append)

pub chain-asks : (x : Bool × ℕ) (s : Point) (os : List (Outcome (Bool × (Bool × ℕ)))) (q : Outcome (Bool × ℕ)) → (chain os q).asks ≡ asks_of os ++ shift (end_of x s os).taken q.asks
chain-asks x s [] q = sym (shift-zero q.asks)
chain-asks x s (o ∷ os) q = ap (λ u. o.asks ++ shift o.taken u) (chain-asks o.value.1 o.state os q) ∙ simp (map-append, shift-twice, append_assoc)

-- ---- what is asked first

pub record Begins (ls asks : List Ask) : Type 0 where
  pub more : List Ask
  pub is : asks ≡ ls ++ more

pub begins-append : (ls asks ks : List Ask) → Begins ls asks → Begins ls (asks ++ ks)
begins-append ls asks ks b = record { more = b.more ++ ks; is = ap (λ u. u ++ ks) b.is ∙ append_assoc ls b.more ks }

pub begins-shift : (n : ℕ) (ls asks : List Ask) → Begins ls asks → Begins (shift n ls) (shift n asks)
begins-shift n ls asks b = record { more = shift n b.more; is = ap (shift n) b.is ∙ map-append (shift_one n) ls b.more }

-- Pieces begin by asking for the token at hand.
module _ (r : Sequence) where
  abbrev pub looks_in : Place → Point → List Ask
  looks_in z s = hand_asks_of r.level z s

  piece-begins : (x : Bool × ℕ) (z : Place) (s : Point) → Begins (looks_in z s) (turn_of r x z s).asks
  unfolding run markup_turn
  piece-begins x z s = record { more = _; is = refl }

  pub pieces-begin : (x : Bool × ℕ) (z : Place) (s : Point) → Begins (looks_in z s) (repeated (turn_of r) x z s).asks
  unfolding repeated
  pieces-begin x z s = grind (arith, piece-begins, on_both, begins-append)

  pub each-ends : (x : Bool × ℕ) (z : Place) (s : Point) → (turn_of r x z s).value.0 ≡ true → (let o = turn_of r x z s in Ends o.asks o.taken o.value.1 o.state (looks_in (moved o.taken z) o.state))
  each-ends x z s h = turn-ends r.level r.stops x z s h

-- ---- a note of a text, and what its numbers say of what was asked before it and after it

module _ (k : CharClasses) (text : List ℕ) where
  pub record NotedAt (early behind : List Ask) (at gap fewer : ℕ) (m : Mark) (s : State) : Type 0 where
    pub earlier : List Note
    pub note : Note
    pub later : List Note
    pub count : length earlier ≡ notes_in early
    pub notes : (log k text).notes ≡ Some (earlier ++ note ∷ later)
    pub mark : note.mark ≡ m
    pub before : note.before ≡ width (take at text)
    pub start : note.start ≡ width (take (at + gap) text)
    pub levels : note.levels ≡ max_depth - fewer
    pub state : note.state ≡ s
    pub reached : (front more : List ℕ) → text ≡ front ++ more → highest earlier note.reach ≤ width front → AllEndBy (length front) early
    pub reached_too : (front more : List ℕ) → text ≡ front ++ more → AllEndBy (length front) early → highest earlier note.reach ≤ width front
    pub begun : (b : ℕ) → b < lowest later (log k text).least → AllFrom b (start_of text) behind
    pub begun_too : (b : ℕ) → b < 2 ^ 64 - 1 → AllFrom b (start_of text) behind → b < lowest later (log k text).least
    pub placed : AllAt (length text) behind

  pub noted-at : (early behind : List Ask) (at gap fewer : ℕ) (m : Mark) (s : State) → (parsed k max_depth text).asks ≡ early ++ marked at gap fewer m s ∷ behind → NotedAt early behind at gap fewer m s
  unfolding log position
  noted-at early behind at gap fewer m s is =
      let z = start_of text in
      let p : Noting = record { at = at; gap = gap; fewer = fewer; mark = m; state = s } in
      let later = fresh_notes max_depth z behind in
      let noted = ap (λ ls. (logged max_depth z no_log ls).notes) is ∙ logged-notes max_depth z (early ++ as_ask p ∷ behind) ∙ ap Some (notes-around max_depth z early p behind) in
      let least = ap (λ ls. (logged max_depth z no_log ls).least) is ∙ logged-least max_depth z (early ++ as_ask p ∷ behind) ∙ least-around max_depth z early p behind in
      let long : max 0 (length text) ≡ length text = omega arith in
      let inside = subst (λ n. AllAt n (parsed k max_depth text).asks) long (in-level (rules k) k max_depth whole z (start_point markup_reading)) in
      let all = subst (λ ls. AllAt (length text) ls) is inside in
      record {
        earlier = fresh_notes max_depth z early;
        note = next_note max_depth z early p;
        later = later;
        count = noted-length max_depth z early 0 none_yet;
        notes = noted;
        mark = refl;
        before = width-moved at text;
        start = ap position (sym (moved-sum at gap z)) ∙ width-moved (at + gap) text;
        levels = refl;
        state = refl;
        reached = λ front more same h. end-by front more early (subst (λ u. AllAt (length u) early) same (looks-first (at-most (length text)) early _ all)) (subst (λ u. AllReach (width front) (start_of u) early) same (reach-by max_depth (width front) z early 0 none_yet h).1);
        reached_too = λ front more same h. reach-to max_depth (width front) z early 0 none_yet (omega arith) (subst (λ u. AllReach (width front) (start_of u) early) (sym same) (end-to front more early h));
        begun = λ n l. (least-by max_depth n z behind 0 none_yet (subst (λ m. n < lowest later m) least l)).1;
        begun_too = λ n big f. subst (λ m. n < lowest later m) (sym least) (least-to max_depth n z behind 0 none_yet big big f);
        placed = looks-second (at-most (length text)) early _ all;
      }
