-- What is asked of pieces of any run, cut at the note where some of them end.
use Rattle.std.proofs.Common.{◌≡◌, ℕ, zero, suc, ◌+◌, ◌<◌, true, List, [], ◌∷◌, ◌++◌, append_assoc, append-nil, refl, ap, sym, ◌∙◌, subst, arith, Bool, rules}
use Rattle.typst_edits.proofs.Cited.{map-append, Place, moved, Ask, shift, shift_one, SameIn, looked, marked, hand_asks_of, Point, gap_of, state_of, AllEndBy, AllBeginIn, note_at, looks_next, own_of, AllGo, asks_of, End, end_of, Sequence, turn_of, first_of, first_end, then_of, then_end, then_place, Noting, noting, notes_in, lowered, same_in-shift, same_in-second}
use Rattle.typst_language.specs.declared.calls.Mark.TheVariants as mark
use Rattle.typst_edits.proofs.Boundary.{looks_in, piece_mark, each-ends, made-ends}
use Rattle.typst_edits.proofs.EmptyRuns.{Never}
use Rattle.typst_edits.proofs.Bytes.{AllMarks, none-hand}
use Rattle.typst_edits.proofs.Outcomes.{shift-zero, shift-twice, lowered-zero}
use Rattle.typst_edits.proofs.Splice.{Side, entries_at, back_at, count-append, count-none, bare-shift, side-closed, side-open, token-at}
use Rattle.typst_edits.proofs.Looks.{ending, in-rest, looks-both, looks-by, looks-shifted, looks-split}

-- ---- asks of a larger whole

module _ (a f : ℕ) where
  -- asks of a run, counted in the whole from where it begins, where a given number of levels more are left
  abbrev pub lifted : List Ask → List Ask
  lifted ls = shift a (lowered f ls)

  pub lifted-append : (ls ks : List Ask) → lifted (ls ++ ks) ≡ lifted ls ++ lifted ks
  lifted-append ls ks = simp (map-append)

  abbrev pub lifted_note : Noting → Noting
  lifted_note p = record { at = a + p.at; gap = p.gap; fewer = f + p.fewer; mark = p.mark; state = p.state }

  pub lifted-bare : (ls : List Ask) → AllMarks Never ls → AllMarks Never (lifted ls)
  lifted-bare [] h = tt
  lifted-bare (looked at look ∷ ls) h = lifted-bare ls h
  lifted-bare (marked at gap fewer m s ∷ ls) h = absurd h.0

  pub lifted-count : (ls : List Ask) → notes_in (lifted ls) ≡ notes_in ls
  lifted-count [] = refl
  lifted-count (looked at look ∷ ls) = lifted-count ls
  lifted-count (marked at gap fewer m s ∷ ls) = ap suc (lifted-count ls)

-- counted from further on
pub low-shift : (f d : ℕ) (ls : List Ask) → lowered f (shift d ls) ≡ shift d (lowered f ls)
low-shift f d [] = refl
low-shift f d (looked at look ∷ ls) = ap (λ u. looked (d + at) look ∷ u) (low-shift f d ls)
low-shift f d (marked at gap fewer m s ∷ ls) = ap (λ u. marked (d + at) gap (f + fewer) m s ∷ u) (low-shift f d ls)

pub begins-further : (past d : ℕ) (rest : List ℕ) (ls : List Ask) → AllBeginIn (past + d) rest ls → AllBeginIn past rest (shift d ls)
begins-further past d rest ls h = looks-by (in-rest (past + d) rest) (looks-shifted (in-rest past rest) d) (λ at look p. (omega (arith, p.0), omega (arith, p.1))) ls h

-- ---- the notes of a run

-- by the point before the look at its first token, and that look
module _ (r : Sequence) (first : Point) (ls : List Ask) where
  -- the looks at the token after the n pieces that follow the first i
  abbrev pub looks_end : ℕ → ℕ → List Ask
  looks_end i n = shift ((first_end i r).taken + (then_end i n r).taken) (hand_asks_of r.level (then_place i n r) (then_end i n r).state)

  pub end-bare : (i n : ℕ) → AllMarks Never (looks_end i n)
  end-bare i n = let f = then_end i n r in bare-shift ((first_end i r).taken + f.taken) (hand_asks_of r.level (then_place i n r) f.state) (none-hand Never r.level.classes f.state.held f.state.known (then_place i n r))

  pub next-none : (i : ℕ) → AllMarks Never ls → notes_in (looks_next r ls i) ≡ 0
  next-none zero bare = count-none ls bare
  next-none (suc i) bare = search (rules, count-none, bare-shift, none-hand)

  -- where this is asked after i pieces
  abbrev pub asks_in : ℕ → List Ask → List Ask
  asks_in i behind = piece_mark 0 (true, 0) first ∷ ((ls ++ asks_of (first_of i r)) ++ shift (first_end i r).taken behind)

  -- what is asked up to the note where i pieces end, and the looks after it
  pub record Cut (i : ℕ) : Type 0 where
    pub early : List Ask
    pub is : piece_mark 0 (true, 0) first ∷ (ls ++ asks_of (first_of i r)) ≡ early ++ noting (note_at r first i) ∷ looks_next r ls i
    pub count : notes_in early ≡ notes_in (asks_of (first_of i r))
    pub none : i ≡ 0 → early ≡ []
    pub ends : (n d : ℕ) → (0 < i → AllEndBy n (shift d (ls ++ asks_of (first_of i r)))) → AllEndBy n (shift d early)
    pub ended : (n d : ℕ) → 0 < i → AllEndBy n (shift d early) → AllEndBy n (shift d (ls ++ asks_of (first_of i r)))

  pub cut : (i : ℕ) → AllMarks Never ls → AllGo (first_of i r) → Cut i
  cut zero bare g = record { early = []; is = ap (λ u. piece_mark 0 (true, 0) first ∷ u) (append-nil ls); count = refl; none = λ e. refl; ends = λ n d h. tt; ended = λ n d l. absurd (omega (arith, l)) }
  cut (suc j) bare g =
      let os = first_of (suc j) r in
      let b = made-ends (turn_of r) (looks_in r) (each-ends r) j (true, 0) r.place r.point g in
      let looks = looks_next r ls (suc j) in
      let p = noting (note_at r first (suc j)) in
      let before = ls ++ (b.early ++ looks) in
      let start = piece_mark 0 (true, 0) first in
      let is : ls ++ asks_of os ≡ before ++ p ∷ looks =
      ap (λ u. ls ++ u) (b.is ∙ sym (append_assoc b.early looks (p ∷ looks))) ∙ sym (append_assoc ls (b.early ++ looks) (p ∷ looks)) in
      record {
        early = start ∷ before;
        is = ap (λ u. start ∷ u) is;
        count = omega (arith, count-none ls bare, next-none (suc j) bare, ap notes_in is ∙ count-append before (p ∷ looks), count-append ls (asks_of os));
        none = λ e. absurd (omega (arith, e));
        ends = λ n d h.
            (let one = looks-split (looks-shifted (ending n) d) ls (asks_of os) (h (omega arith)) in
            let two = looks-split (looks-shifted (ending n) d) b.early (looks ++ p ∷ looks) (subst (λ u. AllEndBy n (shift d u)) b.is one.1) in
            looks-both (looks-shifted (ending n) d) ls (b.early ++ looks) one.0 (looks-both (looks-shifted (ending n) d) b.early looks two.0 (looks-split (looks-shifted (ending n) d) looks (p ∷ looks) two.1).0));
        ended = λ n d l h.
            (let one = looks-split (looks-shifted (ending n) d) ls (b.early ++ looks) h in
            let two = looks-split (looks-shifted (ending n) d) b.early looks one.1 in
            looks-both (looks-shifted (ending n) d) ls (asks_of os) one.0 (subst (λ u. AllEndBy n (shift d u)) (sym b.is) (looks-both (looks-shifted (ending n) d) b.early (looks ++ p ∷ looks) two.0 (looks-both (looks-shifted (ending n) d) looks (p ∷ looks) two.1 two.1))));
      }

  -- what is asked of some pieces, cut at the note where they end
  pub record Closed (i n : ℕ) : Type 0 where
    pub second : List Ask
    pub is : (let e = first_end i r in let f = then_end i n r in
        own_of r ls i n ≡ second ++ marked (e.taken + f.taken) (gap_of f.state.known) 0 (mark.Piece f.value.0 f.value.1) (state_of f.state) ∷ looks_end i n)

  pub closed : (i n : ℕ) → AllGo (then_of i (suc n) r) → Closed i (suc n)
  closed i n g =
      let e = first_end i r in
      let f = then_end i (suc n) r in
      let b = made-ends (turn_of r) (looks_in r) (each-ends r) n e.value (moved e.taken r.place) e.state g in
      let hand = hand_asks_of r.level (then_place i (suc n) r) f.state in
      let q = marked (e.taken + f.taken) (gap_of f.state.known) 0 (mark.Piece f.value.0 f.value.1) (state_of f.state) in
      let inner = shift f.taken hand in
      let late = shift e.taken inner in
      let early = shift e.taken b.early in
      let next = looks_next r ls i in
      let own_is : shift e.taken (asks_of (then_of i (suc n) r)) ≡ early ++ (late ++ q ∷ late) =
      ap (shift e.taken) b.is ∙ map-append (shift_one e.taken) b.early _ ∙ ap (λ u. early ++ u) (map-append (shift_one e.taken) inner _) in
      record {
        second = next ++ (early ++ late);
        is = ap (λ u. next ++ u) own_is ∙ ap (λ u. next ++ u) (sym (append_assoc early late (q ∷ late))) ∙ sym (append_assoc next (early ++ late) (q ∷ late))
            ∙ ap (λ u. (next ++ (early ++ late)) ++ q ∷ u) (shift-twice e.taken f.taken hand);
      }

  -- Without a piece, and without one before it, the look at the first token has to be as where trivia are known.
  pub record Plain : Type 0 where
    pub looks : ls ≡ hand_asks_of r.level r.place r.point
    pub gap : gap_of first.known ≡ gap_of r.point.known

  opened : (i : ℕ) → (i ≡ 0 → Plain) → looks_next r ls i ≡ looks_end i 0
  opened zero plain = (plain refl).looks ∙ sym (shift-zero (hand_asks_of r.level r.place r.point))
  opened (suc i) plain = let e = first_end (suc i) r in let none : e.taken ≡ e.taken + 0 = omega arith in ap (λ d. shift d (hand_asks_of r.level (moved e.taken r.place) e.state)) none

  -- ---- in a whole that goes on after them

  module _ (lv a f : ℕ) (z : Place) (more : List Ask) (end : ℕ) (last : List Ask) where
    abbrev pub own_in : ℕ → ℕ → List Ask
    own_in i n = lifted a f (own_of r ls i n)

    pub side-in : (i n : ℕ) → AllGo (then_of i n r) → (let e = first_end i r in let g = then_end i n r in lifted a f (looks_end i n) ++ more ≡ shift end last → (a + (e.taken + g.taken)) + gap_of g.state.known ≡ end → (i + n ≡ 0 → Plain)
        → Side lv z (lifted_note a f (note_at r first i)) (own_in i n) (own_in i n ++ more) (entries_at lv z end last) (back_at lv z end last))
    side-in zero zero g late here plain =
        let p = plain refl in
        let looks : own_of r ls 0 0 ≡ looks_end 0 0 = append-nil ls ∙ opened 0 (λ e. p) in
        side-open lv z (lifted_note a f (note_at r first 0)) (own_in 0 0) (own_in 0 0 ++ more) end last (subst (λ u. AllMarks Never (lifted a f u)) (sym looks) (lifted-bare a f (looks_end 0 0) (end-bare 0 0)))
        (ap (λ u. lifted a f u ++ more) looks ∙ late) (token-at z (lifted_note a f (note_at r first 0)) end (ap (λ n. (a + 0) + n) p.gap ∙ here))
    side-in (suc i) zero g late here plain =
        let e = first_end (suc i) r in
        let looks : own_of r ls (suc i) 0 ≡ looks_end (suc i) 0 = append-nil (looks_next r ls (suc i)) ∙ opened (suc i) (λ e. absurd (omega (arith, e))) in
        side-open lv z (lifted_note a f (note_at r first (suc i))) (own_in (suc i) 0) (own_in (suc i) 0 ++ more) end last
        (subst (λ u. AllMarks Never (lifted a f u)) (sym looks) (lifted-bare a f (looks_end (suc i) 0) (end-bare (suc i) 0)))
        (ap (λ u. lifted a f u ++ more) looks ∙ late) (token-at z (lifted_note a f (note_at r first (suc i))) end (omega (arith, here)))
    side-in i (suc n) g late here plain =
        let j = then_end i (suc n) r in
        let c = closed i n g in
        let q : Noting = record { at = a + ((first_end i r).taken + j.taken); gap = gap_of j.state.known; fewer = f + 0; mark = mark.Piece j.value.0 j.value.1; state = state_of j.state } in
        let looks = looks_end i (suc n) in
        let own : own_in i (suc n) ≡ lifted a f c.second ++ noting q ∷ lifted a f looks = ap (lifted a f) c.is ∙ lifted-append a f c.second _ in
        side-closed lv z (lifted_note a f (note_at r first i)) q (own_in i (suc n)) (own_in i (suc n) ++ more) (lifted a f c.second) (lifted a f looks) end last own (lifted-bare a f looks (end-bare i (suc n)))
        (ap (λ u. u ++ more) own ∙ append_assoc (lifted a f c.second) (noting q ∷ lifted a f looks) more ∙ ap (λ u. lifted a f c.second ++ noting q ∷ u) late) (token-at z q end here)

-- ---- the same run in another text

-- asks of the whole itself
pub lifted-none : (ls : List Ask) → lifted 0 0 ls ≡ ls
lifted-none ls = shift-zero (lowered 0 ls) ∙ lowered-zero ls

module _ (r q : Sequence) (first : Point) (ls ks : List Ask) where
  -- what is asked there up to the note where some pieces end
  pub record Again (i : ℕ) (early : List Ask) : Type 0 where
    pub note : note_at q first i ≡ note_at r first i
    pub is : piece_mark 0 (true, 0) first ∷ (ks ++ asks_of (first_of i q)) ≡ early ++ noting (note_at r first i) ∷ looks_next q ks i

  -- where these pieces are the same, and so is all that was looked at
  pub again : (i : ℕ) (c : Cut r first ls i) → first_of i q ≡ first_of i r → (0 < i → q.point ≡ r.point) → (0 < i → ks ≡ ls) → (0 < i → SameIn (ls ++ asks_of (first_of i r)) r.place q.place)
      → ((y v : Place) (s : Point) → SameIn (hand_asks_of r.level y s) y v → hand_asks_of q.level v s ≡ hand_asks_of r.level y s) → Again i c.early
  again zero c same point asks shown frame = record { note = refl; is = ap (λ u. piece_mark 0 (true, 0) first ∷ u) (append-nil ks) ∙ ap (λ u. u ++ piece_mark 0 (true, 0) first ∷ ks) (sym (c.none refl)) }
  again (suc j) c same point asks shown frame =
      let some : 0 < suc j = omega arith in
      let e = first_end (suc j) r in
      let end_is : first_end (suc j) q ≡ e = ap (λ (s : Point). end_of (true, 0) s (first_of (suc j) q)) (point some) ∙ ap (end_of (true, 0) r.point) same in
      let p = noting (note_at r first (suc j)) in
      let hand = hand_asks_of r.level (moved e.taken r.place) e.state in
      let all : SameIn (c.early ++ p ∷ shift e.taken hand) r.place q.place = subst (λ u. SameIn u r.place q.place) c.is (tt, shown some) in
      let seen : SameIn hand (moved e.taken r.place) (moved e.taken q.place) = same_in-shift e.taken hand r.place q.place (same_in-second c.early (p ∷ shift e.taken hand) r.place q.place all).1 in
      let looks_is : looks_next q ks (suc j) ≡ shift e.taken hand = ap (λ (x : End (Bool × ℕ)). shift x.taken (hand_asks_of q.level (moved x.taken q.place) x.state)) end_is ∙ ap (shift e.taken) (frame (moved e.taken r.place) (moved e.taken q.place) e.state seen) in
      grind arith
