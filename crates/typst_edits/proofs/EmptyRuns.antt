-- Runs without an expression: after their trivia only the token at their end is asked for.
use Rattle.typst_edits.proofs.Cited.{◌≡◌, ℕ, ◌+◌, max, min, Bool, true, false, ◌&&◌, ◌==◌, if◌then◌else◌, nat_lt, List, [], ◌∷◌, ◌++◌, Some, refl, ap, sym, ◌∙◌, subst, arith, and-false, SyntaxKind, same, Place, moved, CharClasses, Look, look, position, far, near, token, Mark, Note, State, Ask, shift, looked, marked, is_end, AtHand, as_at_hand, hand_at, hand_asks, column_look, no_log, logged, Trivia, Point, state_of, flush_trivia, Outcome, Level, plain, joined, as_last, repeated, hand_of, hand_asks_of, asked, flushed_state, run, ends, markup_turn, markup_reading, level_at, max_depth, start_of, parsed, log, AllBeginIn, Every, onwards, passed, text_run, asked_past, lead, piece_at, tail, start, Sequence, hand-ends, IsEmpty, if-true, if-false, EmptyTextLaw, text_before, start_before}
use Rattle.typst_kinds.specs.declared.kind.SyntaxKind.TheVariants as kind
use Rattle.typst_kinds.specs.declared.mode.SyntaxMode.TheVariants as mode
use Rattle.typst_language.specs.declared.calls.Mark.TheVariants as mark
use Rattle.typst_edits.proofs.Every.{every-append}
use Rattle.typst_edits.proofs.Bytes.{none_yet, notes_from, logged-notes, AllMarks, marks-append, marks-shift, none-hand}
use Rattle.typst_edits.proofs.Outcomes.{shift-zero}
use Rattle.typst_edits.proofs.BlockRuns.{whole-is}
use Rattle.typst_edits.proofs.RunTrees.{whole-asks}
use Rattle.typst_edits.proofs.Known.{flushed-held}

-- ---- looks at one token

-- in markup, with a given number of characters of trivia known
pub record Knows (n : ℕ) (s : Point) : Type 0 where
  pub held : s.held ≡ markup_reading
  pub trivia : Trivia
  pub known : s.known ≡ Some trivia
  pub gap : trivia.gap ≡ n

pub hand-looks : (k : CharClasses) (t : Trivia) (z : Place) → hand_asks k markup_reading (Some t) z ≡ looked t.gap (look (token k mode.Markup) (moved t.gap z)) ∷ []
unfolding hand_asks
hand-looks k t z =
    ap (λ (b : Bool). looked t.gap (look (token k mode.Markup) (moved t.gap z)) ∷ (if b then looked t.gap (column_look (moved t.gap z)) ∷ [] else [])) (and-false t.newlines.any)

pub hand-asks : (l : Level) (z : Place) (n : ℕ) (s : Point) → Knows n s → hand_asks_of l z s ≡ looked n (look (token l.classes mode.Markup) (moved n z)) ∷ []
hand-asks l z n s h =
    (λ i. hand_asks l.classes (h.held i) (h.known i) z) ∙ hand-looks l.classes h.trivia z ∙ ap (λ m. looked m (look (token l.classes mode.Markup) (moved m z)) ∷ []) h.gap

pub hand-gap : (l : Level) (z : Place) (n : ℕ) (s : Point) → Knows n s → (hand_of l z s).gap ≡ n
unfolding hand_at
hand-gap l z n s h = ap (λ v. (hand_at l.classes s.held v z).gap) h.known ∙ h.gap

pub asked-knows : (l : Level) (z : Place) (n : ℕ) (s : Point) → Knows n s → Knows n (asked (hand_of l z s) s)
asked-knows l z n s h = record { held = h.held; trivia = _; known = refl; gap = hand-gap l z n s h }

pub flushed-knows : (l : Level) (z : Place) (n : ℕ) (s : Point) → Knows n s → Knows 0 (flushed_state (hand_of l z s) s)
flushed-knows l z n s h = record { held = flushed-held (hand_of l z s) s ∙ h.held; trivia = _; known = refl; gap = refl }

-- After known trivia the token at hand is the same.
pub passed-kind : (l : Level) (z : Place) (t : Trivia) (s : Point) → s.known ≡ Some t → (hand_of l (moved t.gap z) (passed t s)).kind ≡ (hand_of l z s).kind
unfolding hand_at
passed-kind l z t s e = ap (λ v. (hand_at l.classes s.held v z).kind) (sym e)

-- Each ask is this look, and there is at least one.
pub record Looks (look : Look) (asks : List Ask) : Type 0 where
  pub each : Every (λ a. a ≡ looked 0 look) asks
  pub more : List Ask
  pub first : asks ≡ looked 0 look ∷ more

begin-more : (past : ℕ) (rest : List ℕ) (a : Ask) (asks : List Ask) → AllBeginIn past rest (a ∷ []) → AllBeginIn past rest asks → AllBeginIn past rest (a ∷ asks)
begin-more past rest (looked at look) asks h k = (h.0, h.1, k)
begin-more past rest (marked at gap fewer m s) asks h k = k

pub begin-each : (past : ℕ) (rest : List ℕ) (look : Look) (asks : List Ask) → Every (λ a. a ≡ looked 0 look) asks → AllBeginIn past rest (looked 0 look ∷ []) → AllBeginIn past rest asks
begin-each past rest look [] e h = tt
begin-each past rest look (a ∷ asks) e h =
    begin-more past rest a asks (subst (λ b. AllBeginIn past rest (b ∷ [])) (sym e.0) h) (begin-each past rest look asks e.1 h)

pub begin-one : (past : ℕ) (rest : List ℕ) (look : Look) (asks : List Ask) → Looks look asks → AllBeginIn past rest asks → AllBeginIn past rest (looked 0 look ∷ [])
begin-one past rest look asks l h = let g = subst (λ u. AllBeginIn past rest u) l.first h in (g.0, g.1, tt)

-- the look at the token at a place
abbrev pub token_look : Level → Place → Look
token_look l z = look (token l.classes mode.Markup) z

pub looks-hand : (l : Level) (z : Place) (s : Point) → Knows 0 s → Looks (token_look l z) (hand_asks_of l z s)
looks-hand l z s h = let is = hand-asks l z 0 s h in record { each = subst (λ u. Every (λ a. a ≡ looked 0 (token_look l z)) u) (sym is) (refl, tt); more = []; first = is }

pub looks-append : (look : Look) (xs ys : List Ask) → Looks look xs → Every (λ a. a ≡ looked 0 look) ys → Looks look (xs ++ ys)
looks-append look xs ys l e = record { each = every-append (λ a. a ≡ looked 0 look) xs ys l.each e; more = l.more ++ ys; first = ap (λ u. u ++ ys) l.first }

pub unmoved : (look : Look) (n : ℕ) (asks : List Ask) → n ≡ 0 → Every (λ a. a ≡ looked 0 look) asks → Every (λ a. a ≡ looked 0 look) (shift n asks)
unmoved look n asks e h = subst (λ u. Every (λ a. a ≡ looked 0 look) u) (sym (ap (λ m. shift m asks) e ∙ shift-zero asks)) h

-- ---- the end of a run

module _ (l : Level) (stops : SyntaxKind → Bool) (x : Bool × ℕ) (z : Place) (s : Point) where
  abbrev peeked : Outcome AtHand
  peeked = record (plain (as_at_hand (hand_of l z s)) (asked (hand_of l z s) s)) { asks = hand_asks_of l z s }

  abbrev pub stopped : Outcome (Bool × (Bool × ℕ))
  stopped = joined peeked (plain (false, x) (asked (hand_of l z s) s))

  turn-stopped : ends stops x.1 (as_at_hand (hand_of l z s)).kind ≡ true → run l (markup_turn true stops x) z s ≡ stopped
  unfolding run markup_turn
  turn-stopped h = ap (joined peeked) (if-true (ends stops x.1 (as_at_hand (hand_of l z s)).kind) _ _ h)

  pub run-stopped : ends stops x.1 (as_at_hand (hand_of l z s)).kind ≡ true → repeated (λ y. run l (markup_turn true stops y)) x z s ≡ as_last stopped
  unfolding repeated
  run-stopped h =
      let o = run l (markup_turn true stops x) z s in
      let is = turn-stopped h in
      if-false (o.value.0 && nat_lt 0 o.taken) _ (as_last o) (ap (λ (p : Outcome (Bool × (Bool × ℕ))). p.value.0 && nat_lt 0 p.taken) is) ∙ ap as_last is

-- what the flush at the end asks and leaves, where a given number of characters of trivia are known
pub flush-looks : (l : Level) (z : Place) (s : Point) → Knows 0 s → Every (λ a. a ≡ looked 0 (token_look l z)) (run l flush_trivia z s).asks
unfolding run flush_trivia
flush-looks l z s h =
    let hand = hand_of l z s in
    let p = flushed_state hand s in
    let none = hand-gap l z 0 s h in
    let again : Every (λ a. a ≡ looked 0 (token_look l z)) (hand_asks_of l (moved hand.gap z) p ++ []) =
    subst (λ n. Every (λ a. a ≡ looked 0 (token_look l z)) (hand_asks_of l (moved n z) p ++ [])) (sym none) (every-append _ (hand_asks_of l z p) [] (looks-hand l z p (flushed-knows l z 0 s h)).each tt) in
    every-append (λ a. a ≡ looked 0 (token_look l z)) (hand_asks_of l z s) (shift hand.gap (hand_asks_of l (moved hand.gap z) p ++ [])) (looks-hand l z s h).each (unmoved (token_look l z) hand.gap _ none again)

-- all that is asked after the trivia of a run without an expression
pub onwards-looks : (r : Sequence) (x : Bool × ℕ) (z : Place) (s : Point) → Knows 0 s → ends r.stops x.1 (as_at_hand (hand_of r.level z s)).kind ≡ true → Looks (token_look r.level z) (onwards r x z s).asks
unfolding run
onwards-looks r x z s h e =
    let l = r.level in
    let p = asked (hand_of l z s) s in
    subst (λ (o : Outcome (Bool × ℕ)). Looks (token_look l z) (joined o (run l flush_trivia (moved o.taken z) o.state)).asks) (sym (run-stopped l r.stops x z s e))
    (looks-append (token_look l z) (hand_asks_of l z s ++ []) (shift 0 (run l flush_trivia z p).asks)
    (looks-append (token_look l z) (hand_asks_of l z s) [] (looks-hand l z s h) tt)
    (unmoved (token_look l z) 0 (run l flush_trivia z p).asks refl (flush-looks l z p (asked-knows l z 0 s h))))

-- ---- one note

abbrev pub Never : ℕ → ℕ → Mark → State → Type 0
Never at fewer m s = ⊥

pub none-flush : (P : ℕ → ℕ → Mark → State → Type 0) (l : Level) (z : Place) (s : Point) → AllMarks P (run l flush_trivia z s).asks
unfolding run flush_trivia
none-flush P l z s =
    let h = hand_of l z s in
    let p = flushed_state h s in
    let w = moved h.gap z in
    let Q = λ (at fewer : ℕ) (m : Mark) (u : State). P (h.gap + at) fewer m u in
    marks-append P (hand_asks_of l z s) _ (none-hand P l.classes s.held s.known z)
    (marks-shift P h.gap (hand_asks_of l w p ++ []) (marks-append Q (hand_asks_of l w p) [] (none-hand Q l.classes p.held p.known w) tt))

pub notes-none : (lv : ℕ) (z : Place) (asks : List Ask) (reach least : ℕ) → AllMarks Never asks → notes_from lv z reach least asks ≡ []
notes-none lv z [] reach least h = refl
notes-none lv z (looked at look ∷ asks) reach least h = notes-none lv z asks (max reach (far look.front (moved at z))) (min least (near look.back (moved at z))) h
notes-none lv z (marked at gap fewer m s ∷ asks) reach least h = absurd h.0

module _ (k : CharClasses) (text : List ℕ) where
  abbrev z0 : Place
  z0 = start_of text

  pub record OneNote : Type 0 where
    pub note : Note
    pub notes : (log k text).notes ≡ Some (note ∷ [])
    pub mark : note.mark ≡ mark.Piece true 0
    pub levels : note.levels ≡ max_depth

  pub one-note : IsEmpty (text_run k z0) → OneNote
  unfolding log run
  one-note e =
      let s = (lead k z0).state in
      let q = repeated (piece_at k) (true, 0) z0 s in
      let t = tail k q.taken q.state z0 in
      let first : Ask = marked 0 0 0 (mark.Piece true 0) (state_of start) in
      let behind = ((lead k z0).asks ++ q.asks) ++ shift q.taken t.asks in
      let is : (parsed k max_depth text).asks ≡ first ∷ behind = ap (λ (o : Outcome (Unit {0})). o.asks) (whole-is k text) ∙ whole-asks k z0 q t in
      let stop : q.asks ≡ hand_asks_of (level_at k max_depth) z0 s ++ [] = ap (λ (o : Outcome (Bool × ℕ)). o.asks) (run-stopped (level_at k max_depth) is_end (true, 0) z0 s e) in
      let in_run : AllMarks Never q.asks = subst (λ u. AllMarks Never u) (sym stop) (marks-append Never (hand_asks_of (level_at k max_depth) z0 s) [] (none-hand Never k s.held s.known z0) tt) in
      let last = marks-shift Never q.taken t.asks (none-flush (λ at fewer m p. ⊥) (level_at k max_depth) (moved q.taken z0) q.state) in
      let none : AllMarks Never behind = marks-append Never ((lead k z0).asks ++ q.asks) (shift q.taken t.asks) (marks-append Never (lead k z0).asks q.asks (none-hand Never k start.held start.known z0) in_run) last in
      let note : Note = record { mark = mark.Piece true 0; before = position z0; start = position z0; levels = max_depth; state = state_of start; reach = no_log.reach; least = no_log.least } in
      record {
        note = note;
        notes = ap (λ u. (logged max_depth z0 no_log u).notes) is ∙ logged-notes max_depth z0 (first ∷ behind) ∙ ap (λ ns. Some (note ∷ ns)) (notes-none max_depth z0 behind 0 none_yet none);
        mark = refl;
        levels = refl;
      }

pub end-any : (b c d : Bool) → (if b then (c && d) else c) ≡ true → c ≡ true
end-any true true d e = refl
end-any true false d e = absurd (cc)
end-any false c d e = e

-- At the text's end no token looks back.
pub end-look : (k : CharClasses) (b a : List ℕ) → a ≡ [] → (look (token k mode.Markup) (record { before = b; ahead = a })).back ≡ 0
unfolding token
end-look k b [] e = refl
end-look k b (c ∷ a) e = absurd (cc)

pub empty-text-law : EmptyTextLaw
unfolding run
empty-text-law k edit past t e known =
    let z = start_before edit in
    let one = one-note k (text_before edit) e in
    let r = text_run k z in
    let s = passed t r.point in
    let stops : ends r.stops 0 (as_at_hand (hand_of r.level (moved t.gap z) s)).kind ≡ true =
    ap (ends is_end 0) (passed-kind r.level z t r.point known) ∙ e in
    let y = moved t.gap z in
    let h = hand_of r.level z r.point in
    let last : y.ahead ≡ [] = ap (λ n. (moved n z).ahead) (sym (hand-gap r.level z t.gap r.point (record { held = refl; trivia = t; known = known; gap = refl })))
    ∙ hand-ends k mode.Markup r.point.known z (end-any (same kind.RightBracket h.kind) (is_end h.kind) (0 == 0) e) in
    let none : (token_look r.level y).back ≡ 0 = end-look k y.before y.ahead last in
    let asked = onwards-looks r (true, 0) (moved t.gap z) s (record { held = refl; trivia = _; known = refl; gap = refl }) stops in
    record {
      note = one.note;
      notes = one.notes;
      says = one.mark;
      levels = one.levels;
      after = begin-each past edit.rest (token_look r.level (moved t.gap z)) (asked_past k 0 0 t z) asked.each;
      after_too = begin-one past edit.rest (token_look r.level (moved t.gap z)) (asked_past k 0 0 t z) asked;
      always = λ within. begin-each past edit.rest (token_look r.level y) (asked_past k 0 0 t z) asked.each (omega (arith, none), omega (arith, within), tt);
    }
