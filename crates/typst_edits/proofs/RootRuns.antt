-- A candidate among the children of a run is pieces of it: at the top of a text's tree those of the text's run.
use Rattle.typst_edits.proofs.Cited.{◌≡◌, ◌↔◌, ℕ, zero, suc, ◌+◌, ◌-◌, ◌<◌, ◌≤◌, Bool, true, false, List, [], ◌∷◌, ◌++◌, length, length-append, append_assoc, take, Some, refl, ap, sym, ◌∙◌, subst, arith, inl, inr, Place, CharClasses, Tree, width, Trivia, gap_of, is_among, ChildRange, Candidate, begins, IsPieces, RootPiecesOfLaw, Run, read_as, opened_by, cut_at, is_over, bytes_of, AllGo, End, Sequence, turn_of, first_of, first_end, then_of, then_end, root_run, cases_lt, token_after, token_past, run_from, kids_of_run, first_place, TextReplacement, text_before, start_before}
use Rattle.typst_edits.proofs.Boundary.{KnownAt}
use Rattle.typst_edits.proofs.CandidateEnds.{stretch, begins-last, from-less, from-cut, from-early, to-cut, to-late, Parted, begun}
use Rattle.typst_edits.proofs.RunCandidates.{IsCut, OfRun, run-of, run-parted}
use Rattle.typst_edits.proofs.Cuts.{tokens-rise}
use Rattle.typst_edits.proofs.OneReading.{go-first, go-second, first-split, end-split-at}
use Rattle.typst_edits.proofs.RunPieces.{cut-some, take-past, takes-of}
use Rattle.typst_edits.proofs.Joint.{is-run, leads-of}
use Rattle.typst_edits.proofs.Leading.{from-is, turn-over}
use Rattle.typst_edits.proofs.NumberedNotes.{go-fewer}
use Rattle.typst_edits.proofs.Resumed.{known-after, markup-of}
use Rattle.typst_edits.proofs.Widths.{width-append, early-by as sooner, as-far}

-- ---- which pieces of a run the children of a stretch are

-- The children of a stretch are the pieces of a run after the first i, up to the j-th; the run has a given number of pieces.
pub record Picked (byte : ℕ → ℕ) (count from : ℕ) (ts : List Tree) (s : ChildRange) : Type 0 where
  pub i : ℕ
  pub j : ℕ
  pub order : i ≤ j
  pub few : j ≤ count
  pub led : 0 < i ↔ 0 < s.from
  pub start : 0 < i → byte i ≡ begins from ts s.from
  pub end : byte j ≡ begins from ts s.to
  pub some : 0 < i → i < j
  pub empty : j ≡ 0 → count ≡ 0

module _ (cuts : List ℕ) (from : ℕ) (ts : List Tree) (rs re x : ℕ) (order : rs ≤ re) (byte : ℕ → ℕ) (count : ℕ) (each : (b : ℕ) → is_among b cuts ≡ true → IsCut byte count b)
    (rises : (i j : ℕ) → i < j → j ≤ count → byte i < byte j) (all : byte count ≡ from + bytes_of ts) where
  abbrev s : ChildRange
  s = stretch cuts from ts rs re x order

  record First : Type 0 where
    i : ℕ
    few : i ≤ count
    led : 0 < i ↔ 0 < s.from
    start : 0 < i → byte i ≡ begins from ts s.from

  first : First
  first = elim (cases_lt 0 s.from) [
    | inl led ↦ (let c = each (begins from ts s.from) (from-cut cuts from ts rs re x order led) in record { i = c.index; few = c.few; led = ((λ l. led), (λ l. c.some)); start = λ l. sym c.is })
    | inr none ↦ record { i = 0; few = omega arith; led = ((λ l. absurd (omega (arith, l))), (λ l. absurd (omega (arith, l, none)))); start = λ l. absurd (omega (arith, l)) }
  ]

  record Last : Type 0 where
    j : ℕ
    few : j ≤ count
    end : byte j ≡ begins from ts s.to
    empty : j ≡ 0 → count ≡ 0

  last : Last
  last = elim (cases_lt s.to (length ts)) [
    | inl more ↦ (let c = each (begins from ts s.to) (to-cut cuts from ts rs re x order more) in record { j = c.index; few = c.few; end = sym c.is; empty = λ e. absurd (omega (arith, c.some, e)) })
    | inr over ↦ record { j = count; few = omega arith; end = all ∙ sym (begins-last from ts s.to over); empty = λ e. e }
  ]

  -- What begins at an earlier byte stands after fewer pieces.
  by-order : (i j : ℕ) → i ≤ count → byte i < byte j → i < j
  by-order i j few less = grind arith

  -- So there are pieces if some stand before them.
  some : 0 < first.i → first.i < last.j
  some l =
      by-order first.i last.j first.few (omega (arith, from-less cuts from ts rs re x order (first.led.0 l), first.start l, last.end))

  pub picked : Picked byte count from ts s
  picked = record { i = first.i; j = last.j; order = in-order; few = last.few; led = first.led; start = first.start; end = last.end; some = some; empty = last.empty }
    where
      in-order : first.i ≤ last.j
      in-order = elim (cases_lt 0 first.i) [ inl l ↦ (let less = some l in omega (arith, less)) | inr none ↦ omega (arith, none) ]

-- the first child begins where all of them do
begins-first : (from : ℕ) (ts : List Tree) (n : ℕ) → n ≡ 0 → begins from ts n ≡ from
begins-first from [] n e = refl
begins-first from (t ∷ ts) zero e = refl
begins-first from (t ∷ ts) (suc n) e = absurd (omega (arith, e))

none-led : (i n : ℕ) → (0 < n → 0 < i) → i ≡ 0 → n ≡ 0
none-led i n f e = grind arith

-- ---- pieces of a run

-- The n pieces of a run that follow the first i go on, and the trivia after them are known.
pub record Standing (q : Sequence) (i n : ℕ) : Type 0 where
  pub first_go : AllGo (first_of i q)
  pub go_on : AllGo (then_of i n q)
  pub trivia : Trivia
  pub known : (then_end i n q).state.known ≡ Some trivia

-- Where more pieces of a run go on, so do any of them, with known trivia after them.
pub standing : (q : Sequence) (count i n : ℕ) → i + n ≤ count → AllGo (first_of count q) → ((m : ℕ) → AllGo (first_of m q) → KnownAt (first_end m q).state) → Standing q i n
standing q count i n few go known = let sum : count ≡ (i + n) + (count - (i + n)) = omega (arith, few) in grind (arith, go-first, first-split, go-second, end-split-at)

module _ (k : CharClasses) (edit : TextReplacement) (r : Run k (text_before edit)) (c : Candidate) where
  abbrev text : List ℕ
  text = text_before edit

  abbrev z : Place
  z = start_before edit

  abbrev q : Sequence
  q = read_as r z

  -- A given number of characters stand before the token after i pieces.
  abbrev token : ℕ → ℕ
  token i = let e = first_end i q in opened_by r z + (e.taken + gap_of e.state.known)

  -- The candidate is the n pieces that follow the first i, and ends at a given distance past the stretch.
  pub record HasPieces : Type 0 where
    pub i : ℕ
    pub n : ℕ
    pub past : ℕ
    pub t : Trivia
    pub is : IsPieces k edit r c i n past t

  none-or-some : (P : Type 0) (i : ℕ) → (i ≡ 0 → P) → (0 < i → P) → P
  none-or-some P i f g = grind arith

  -- where the first of them begins
  cut-first : (i : ℕ) → i ≡ 0 → cut_at r i z ≡ opened_by r z
  cut-first i e = grind arith

  -- So is a stretch of the run's children.
  module _ (g : OfRun k edit r c) where
    abbrev from : ℕ
    from = run_from r

    abbrev ts : List Tree
    ts = kids_of_run r

    abbrev cuts : List ℕ
    cuts = g.cuts.cuts

    order : width edit.front ≤ width (edit.front ++ edit.old)
    order = omega (arith, width-append edit.front edit.old)

    known : (m : ℕ) → AllGo (first_of m q) → KnownAt (first_end m q).state
    known = known-after q (markup-of k q (is-run r z))

    -- Pieces that follow others end where all of them do.
    ends : (i n j : ℕ) → i + n ≡ j → token_past r i n ≡ token_after r j
    ends i n j sum = sym (ap (λ (e : End (Bool × ℕ)). width (take (opened_by r z + (e.taken + gap_of e.state.known)) text)) (end-split-at q i n)) ∙ ap (token_after r) sum

    parted : (i n : ℕ) (s : Standing q i n) → Parted q cuts from ts i n (token_after r i) (token_past r i n)
    parted i n s = run-parted k text r (takes-of k edit r g.encloses) g.cuts i s.first_go n s.trivia s.go_on s.known

    -- After the last piece the run ends.
    over : is_over 0 g.cuts.count q ≡ true
    over = let e = first_end g.cuts.count q in turn-over q (leads-of k q (is-run r z)) e.value (first_place g.cuts.count q) e.state (known g.cuts.count g.cuts.go) g.cuts.over

    -- It ends with the last child.
    all-bytes : token_after r g.cuts.count ≡ from + bytes_of ts
    all-bytes = sym (ends 0 g.cuts.count g.cuts.count (omega arith)) ∙ (parted 0 g.cuts.count (standing q g.cuts.count 0 g.cuts.count (omega arith) g.cuts.go known)).last (λ l. absurd (omega (arith, l))) over

    chosen : Picked (token_after r) g.cuts.count from ts (stretch cuts from ts (width edit.front) (width (edit.front ++ edit.old)) g.stretch.more order)
    chosen = picked cuts from ts (width edit.front) (width (edit.front ++ edit.old)) g.stretch.more order (token_after r) g.cuts.count g.cuts.each (λ i j l few. tokens-rise k text r i j l (go-fewer (turn_of q) j g.cuts.count (true, 0) q.place q.point few g.cuts.go)) all-bytes

    pub has-pieces : HasPieces
    has-pieces =
        let rs = width edit.front in
        let re = width (edit.front ++ edit.old) in
        let p = chosen in
        let i = p.i in
        let n = p.j - i in
        let sum : i + n ≡ p.j = omega (arith, p.order) in
        let o = g.stretch in
        let s = standing q g.cuts.count i n (omega (arith, p.order, p.few)) g.cuts.go known in
        let well = begun cuts from ts rs re o.more order q i n (token_after r i) (token_past r i n) (parted i n s) p.led.0 p.start (ends i n p.j sum ∙ p.end) in
        let here = stretch cuts from ts rs re o.more order in
        let from_is : c.from ≡ here.from = ap (λ (d : Candidate). d.from) o.is in
        let begins_is : c.start ≡ begins from ts here.from = ap (λ (d : Candidate). d.start) o.is in
        let ends_is : c.end ≡ begins from ts here.to = ap (λ (d : Candidate). d.end) o.is in
        let start_is : 0 < i → c.start ≡ width (take (token i) text) = λ l. begins_is ∙ sym (p.start l) in
        let end_is : c.end ≡ width (take (token p.j) text) = ends_is ∙ sym p.end in
        let past = token p.j - (length edit.front + length edit.old) in
        let late : re ≤ width (take (token p.j) text) = subst (λ d. re ≤ d) (sym ends_is ∙ end_is) (to-late cuts from ts rs re o.more order g.all) in
        let far = as-far (token p.j) (edit.front ++ edit.old) edit.rest (subst (λ xs. re ≤ width (take (token p.j) xs)) (sym (append_assoc edit.front edit.old edit.rest)) late) in
        let there : token p.j ≡ (length edit.front + length edit.old) + past = omega (arith, far, length-append edit.front edit.old) in
        let early : 0 < i → token i < length edit.front = λ l. sooner (token i) edit.front (edit.old ++ edit.rest) (subst (λ b. b < rs) (sym begins_is ∙ start_is l) (from-early cuts from ts rs re o.more order (p.led.0 l))) in
        record {
          i = i;
          n = n;
          past = past;
          t = s.trivia;
          is = record {
            go = s.first_go;
            go_on = s.go_on;
            known = s.known;
            ends = omega (
              arith,
              ap (λ m. (first_end m q).taken) sum,
              ap (λ (e : End (Bool × ℕ)). e.taken) (end-split-at q i n),
              ap (λ m. gap_of (first_end m q).state.known) (sym sum) ∙ ap (λ (e : End (Bool × ℕ)). gap_of e.state.known) (end-split-at q i n) ∙ ap gap_of s.known,
              there,
            );
            start = none-or-some (c.start ≡ width (take (cut_at r i z) text)) i (λ e. begins_is ∙ begins-first from ts here.from (none-led i here.from p.led.1 e) ∙ from-is r ∙ ap (λ d. width (take d text)) (sym (cut-first i e))) (λ l. start_is l ∙ ap (λ d. width (take d text)) (sym (cut-some r i z l)));
            led = ((λ l. subst (λ d. 0 < d) (sym from_is) (p.led.0 l)), (λ l. p.led.1 (subst (λ d. 0 < d) from_is l)));
            end = end_is ∙ ap width (take-past edit.front edit.old edit.rest past (token p.j) there);
            none = λ l minded. absurd (let d : true ≡ false = sym minded ∙ (well.starts l).1 in cc);
            empty = λ none. (let e = none-or-some (i ≡ 0) i (λ e. e) (λ l. (let more = p.some l in absurd (omega (arith, more, none)))) in (e, subst (λ d. is_over 0 d q ≡ true) (p.empty (omega (arith, e, none))) over));
            early = none-or-some (cut_at r i z ≤ length edit.front) i (λ e. subst (λ d. d ≤ length edit.front) (sym (cut-first i e)) g.before) (λ l. (let at = cut-some r i z l in omega (arith, early l, at)));
          };
        }

-- ---- the law

pub root-pieces-of-law : RootPiecesOfLaw
root-pieces-of-law k edit root c same chosen no_block path =
    let own = root_run k (text_before edit) in
    let h = has-pieces k edit own c (run-of k edit root own c same chosen no_block path) in
    record { i = h.i; n = h.n; past = h.past; t = h.t; is = h.is }
