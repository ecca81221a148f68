-- The entries of a run, by their numbers: of a text's run and of a content block's.
use Rattle.typst_edits.proofs.Cited.{◌≡◌, ℕ, suc, ◌+◌, ◌≤◌, ◌==◌, Bool, true, false, List, [], append-nil, refl, ap, sym, ◌∙◌, subst, arith, ◌-◌, ◌<◌, ◌∷◌, ◌++◌, length, drop, length-append, append_assoc, Some, eqb-true, eqb-false, moved, Place, CharClasses, Note, Meaning, hand_of, run, moved-sum, entries_by, IsRising, ends, max_depth, start_of, log, entries_in, SaysBlock, is_over, text_run, of_level, NumberedInner, goes, listed, number_of, RunNumbersLaw, number_in, InnerNumbersLaw, cut_of, cut_in, AllGo, piece_at, lead, asks_of, Sequence, turn_of, first_of, first_end, then_end, Block, shift, point_of, closing_of, run_at, Among, inner_end, blocks_of_text, BeginsAt, notes_in, Spot, is_text_run, is_block_run, NumberedRun, lt_of_le-ne, replacing}
use Rattle.typst_edits.proofs.BlockTest.{BlockEntries, block-entries, units-listed}
use Rattle.typst_edits.proofs.Boundary.{looks_in, each-ends, made-add, first-of, going-on, known-made}
use Rattle.typst_edits.proofs.Cuts.{cuts-law, inner-cuts-law, few-go}
use Rattle.typst_edits.proofs.FoundPieces.{NoteAt, RunAmong, FoundPieces, found-pieces, says-by, closing, own-none, head-same, tail-same}
use Rattle.typst_edits.proofs.Joint.{Leads, leads-of}
use Rattle.typst_edits.proofs.Leading.{turn-over}
use Rattle.typst_edits.proofs.Nested.{nested-law}
use Rattle.typst_edits.proofs.NumberedNotes.{go-fewer, go-next, number-law, numbered-run-law, NestedNumbers, nested-numbers, level-long}
use Rattle.typst_edits.proofs.RunBytes.{text-note, text-count, asks_before, asks_first, inner_run_mark as run_mark, opened, inner_asks_by as asks_by, block-asks, inner-decision-law, cut-here}
use Rattle.typst_language.specs.declared.calls.Block.TheVariants as block
use Rattle.typst_edits.proofs.Splice.{count-append, count-shift}
use Rattle.typst_edits.proofs.Every.{neither}
use Rattle.typst_edits.proofs.InOrder.{in-order-law}

-- ---- where a run is over

module _ (r : Sequence) (leads : Leads r) where
  abbrev turn : Bool × ℕ → Meaning (Bool × (Bool × ℕ))
  turn x = turn_of r x

  -- The token after a given number of pieces ends it.
  abbrev ended : ℕ → Bool
  ended m = let e = first_end m r in ends r.stops e.value.1 (hand_of r.level (moved e.taken r.place) e.state).kind

  ended-is : (i n : ℕ) → is_over i n r ≡ ended (i + n)
  ended-is i n = grind (arith, first_end i r, then_end i n r, made-add turn (looks_in r) (each-ends r) i n (true, 0) r.place r.point, moved-sum)

  ended-at : (count m : ℕ) → AllGo (first_of count r) → (let e = first_end count r in goes (turn e.value (moved e.taken r.place) e.state) ≡ false) → m ≤ count → ended m ≡ (m == count)
  ended-at count m g over l = by-test (m == count) refl
    where
      by-test : (b : Bool) → (m == count) ≡ b → ended m ≡ b
      by-test true t =
          let e = first_end count r in
          ap ended (eqb-true m count t) ∙ turn-over r leads e.value (moved e.taken r.place) e.state (known-made r.level r.stops count (true, 0) r.place r.point leads.known g) over
      by-test false t =
          let e = first_end m r in
          let go = go-next turn m (true, 0) r.place r.point (go-fewer turn (suc m) count (true, 0) r.place r.point (lt_of_le-ne l (eqb-false m count t)) g) in
          going-on r.level r.stops e.value (moved e.taken r.place) e.state (first-of _ _ go)

  pub over-at : (count i n : ℕ) → AllGo (first_of count r) → (let e = first_end count r in goes (turn e.value (moved e.taken r.place) e.state) ≡ false) → i + n ≤ count → is_over i n r ≡ (i + n == count)
  over-at count i n g over l = ended-is i n ∙ ended-at count (i + n) g over l

-- ---- a text's run

module _ (k : CharClasses) (text : List ℕ) where
  abbrev ns : List Note
  ns = listed (log k text).notes

  abbrev n : NumberedRun k text
  n = numbered-run-law k text

  goes-up-to : (i : ℕ) → i ≤ n.count → AllGo (first_of i (text_run k (start_of text)))
  goes-up-to i l = go-fewer (piece_at k) i n.count (true, 0) (start_of text) (lead k (start_of text)).state l n.go

  -- the note where a given number of pieces end
  note-at : (i : ℕ) → i ≤ n.count → NoteAt max_depth 0 ns i (number_of k text i)
  note-at i l =
      let g = goes-up-to i l in
      let here = text-note k text i g in
      let p = here.told in
      record { earlier = p.earlier; note = p.note; later = p.later; is = ap listed p.notes; own = p.levels; index = number-law k text i g p; all = omega (arith, text-count k text i (first_end i (text_run k (start_of text))) here) }

  among : RunAmong max_depth [] ns [] text (λ i. first_end i (text_run k (start_of text))) n.count (number_of k text)
  among = record {
    nested = nested-law k text;
    rising = subst (λ us. IsRising 0 us) (sym (append-nil ns)) (in-order-law k text);
    each = n.each;
    long = n.all;
    at = note-at;
    cuts_rise = λ i j less l. cuts-law k text i j less (goes-up-to j l);
    over = λ number. refl;
  }

  found : FoundPieces (entries_in k text) (number_of k text) (cut_of k text) (λ i. (first_end i (text_run k (start_of text))).value) n.count
  found =
      subst (λ es. FoundPieces es (number_of k text) (cut_of k text) (λ i. (first_end i (text_run k (start_of text))).value) n.count) (ap (entries_by 0) (append-nil ns) ∙ sym (units-listed (log k text)))
      (found-pieces max_depth [] ns [] text (λ i. first_end i (text_run k (start_of text))) n.count (number_of k text) among)

  text-over : (i m : ℕ) → i + m ≤ n.count → is_over i m (text_run k (start_of text)) ≡ (i + m == n.count)
  unfolding run
  text-over i m l =
      over-at (text_run k (start_of text)) (leads-of k (text_run k (start_of text)) (is_text_run (start_of text))) n.count i m n.go n.over l

pub run-numbers-law : RunNumbersLaw
run-numbers-law k text =
    let z = start_of text in
    let n = numbered-run-law k text in
    let f = found k text in
    record {
      count = n.count;
      go = n.go;
      most = λ i g. few-go (piece_at k) n.count i (true, 0) z (lead k z).state g n.over;
      over = text-over k text;
      begins = λ i l. f.goes_on 0 i (omega arith) l;
      goes_on = f.goes_on;
      rises = f.rises;
      last = f.last;
      not_last = f.not_last;
      says = f.says;
    }

-- ---- a note by the number of those before it

record Inside (ns : List Note) (inner_n : Note) (x : ℕ) : Type 0 where
  earlier : List Note
  later : List Note
  is : ns ≡ earlier ++ inner_n ∷ later
  long : length earlier ≡ x

inside-at : (ns suf es : List Note) (inner_n : Note) (ls : List Note) → ns ++ suf ≡ es ++ inner_n ∷ ls → length es < length ns → Inside ns inner_n (length es)
inside-at [] suf es inner_n ls e l = absurd (omega (arith, l))
inside-at (m ∷ ns) suf [] inner_n ls e l = record { earlier = []; later = ns; is = ap (λ u. u ∷ ns) (head-same m inner_n (ns ++ suf) ls e); long = refl }
inside-at (m ∷ ns) suf (x ∷ es) inner_n ls e l =
    let i = inside-at ns suf es inner_n ls (tail-same m x (ns ++ suf) (es ++ inner_n ∷ ls) e) (omega (arith, l)) in
    record { earlier = m ∷ i.earlier; later = i.later; is = ap (λ us. m ∷ us) i.is; long = ap suc i.long }

inside-behind : (pre ns suf es : List Note) (inner_n : Note) (ls : List Note) (x : ℕ) → pre ++ (ns ++ suf) ≡ es ++ inner_n ∷ ls → length es ≡ length pre + x → x < length ns → Inside ns inner_n x
inside-behind [] ns suf es inner_n ls x e long l = let same : length es ≡ x = omega (arith, long) in subst (λ j. Inside ns inner_n j) same (inside-at ns suf es inner_n ls e (omega (arith, same, l)))
inside-behind (p ∷ pre) ns suf [] inner_n ls x e long l = absurd (omega (arith, long))
inside-behind (p ∷ pre) ns suf (y ∷ es) inner_n ls x e long l = inside-behind pre ns suf es inner_n ls x (tail-same p y (pre ++ (ns ++ suf)) (es ++ inner_n ∷ ls) e) (omega (arith, long)) l

-- ---- a content block's run

module _ (k : CharClasses) (levels : ℕ) (text : List ℕ) (s : Spot (Unit {0})) (chosen : Among s (blocks_of_text k text)) (name : s.name ≡ block.Content) (left : max_depth - s.fewer ≡ suc levels) where
  abbrev known : NestedNumbers k levels text s
  known = nested-numbers k levels text s chosen name left

  abbrev inner_n : NumberedInner k levels text s
  inner_n = known.numbers

  abbrev tail : List Note
  tail = inner_n.inner ++ inner_n.closes ∷ inner_n.later

  abbrev pre : List Note
  pre = inner_n.earlier ++ inner_n.opens ∷ []

  abbrev all : List Note
  all = inner_n.earlier ++ inner_n.opens ∷ tail

  abbrev z0 : Place
  z0 = start_of text

  abbrev own : BlockEntries k text s
  own = block-entries k text s chosen

  notes-are : listed (log k text).notes ≡ all
  notes-are = ap listed inner_n.notes

  all-is : pre ++ tail ≡ all
  all-is = append_assoc inner_n.earlier (inner_n.opens ∷ []) tail

  rising : IsRising 0 all
  rising = subst (λ us. IsRising 0 us) notes-are (in-order-law k text)

  pre-long : length pre ≡ suc (length inner_n.earlier)
  pre-long = let nothing : List Note = [] in let long = length-append inner_n.earlier (inner_n.opens ∷ nothing) in omega (arith, long)

  inner-goes-up-to : (i : ℕ) → i ≤ inner_n.count → AllGo (first_of i (run_at k levels s z0))
  inner-goes-up-to i l = let r = run_at k levels s z0 in go-fewer (turn_of r) i inner_n.count (true, 0) r.place r.point l inner_n.go

  -- Fewer notes are made in a given number of pieces than in the block.
  few-notes : (i : ℕ) → AllGo (first_of i (run_at k levels s z0)) → notes_in (asks_of (first_of i (run_at k levels s z0))) < length inner_n.inner
  few-notes i g =
      let y = moved s.at z0 in
      let p = point_of s.start in
      let r = run_at k levels s z0 in
      let e = first_end i r in
      let firsts = asks_first k levels y p in
      let os = asks_of (first_of i r) in
      let late = asks_by k levels y p e in
      let own = run_mark k levels y p ∷ ((firsts ++ os) ++ shift e.taken late) in
      let a = count-append (asks_before k levels y p) (shift (opened k levels y p) own) in
      let c = count-append (firsts ++ os) (shift e.taken late) in
      omega (arith, ap notes_in (known.asks ∙ block-asks k levels y p i g), known.long, a, count-shift (opened k levels y p) own, c, count-append firsts os)

  -- the note where a given number of pieces end
  inner-note-at : (i : ℕ) → i ≤ inner_n.count → NoteAt (suc levels) (length pre) inner_n.inner i (number_in k levels text s i)
  inner-note-at i l =
      let g = inner-goes-up-to i l in
      let lv = suc levels in
      let d = inner-decision-law k levels (replacing [] [] [] text) s i 0 chosen name left g tt in
      let p = d.begins in
      let x = notes_in (asks_of (first_of i (run_at k levels s z0))) in
      let before = known.number in
      let long = pre-long in
      let h = inside-behind pre inner_n.inner (inner_n.closes ∷ inner_n.later) p.earlier p.note p.later x (all-is ∙ sym notes-are ∙ ap listed p.notes) (omega (arith, d.number, before, long)) (few-notes i g) in
      let j = length (of_level lv h.earlier) in
      let says = says-by lv inner_n.inner text (λ m. inner_end k levels m s z0) h.earlier p.note h.later j inner_n.each h.is p.levels refl in
      let fits : j ≤ inner_n.count = omega (arith, ap (λ us. length (of_level lv us)) h.is, level-long lv h.earlier p.note h.later p.levels, inner_n.all) in
      let here = cut-here text i (inner_end k levels i s z0) p.note.start d.token d.token_first in
      record {
        earlier = h.earlier;
        note = p.note;
        later = h.later;
        is = h.is;
        own = p.levels;
        index = neither j i
            (λ less. (let rise = inner-cuts-law k levels text s j i less g in omega (arith, rise, here, says.start)))
            (λ less. (let rise = inner-cuts-law k levels text s i j less (inner-goes-up-to j fits) in omega (arith, rise, here, says.start)));
        all = omega (arith, h.long, before, long);
      }

  inner-among : RunAmong (suc levels) pre inner_n.inner (inner_n.closes ∷ inner_n.later) text (λ i. inner_end k levels i s z0) inner_n.count (number_in k levels text s)
  inner-among = record {
    nested = known.nested;
    rising = subst (λ us. IsRising 0 us) (sym all-is) rising;
    each = inner_n.each;
    long = inner_n.all;
    at = inner-note-at;
    cuts_rise = λ i j less l. inner-cuts-law k levels text s i j less (inner-goes-up-to j l);
    over = λ number. own-none (λ m. true) number inner_n.closes inner_n.later inner_n.name_end;
  }

  entries-are : entries_by 0 (pre ++ tail) ≡ entries_in k text
  entries-are = ap (entries_by 0) (all-is ∙ sym notes-are) ∙ sym (units-listed (log k text))

  inner-found : FoundPieces (entries_in k text) (number_in k levels text s) (cut_in k levels text s) (λ i. (inner_end k levels i s z0).value) inner_n.count
  inner-found =
      subst (λ es. FoundPieces es (number_in k levels text s) (cut_in k levels text s) (λ i. (inner_end k levels i s z0).value) inner_n.count) entries-are
      (found-pieces (suc levels) pre inner_n.inner (inner_n.closes ∷ inner_n.later) text (λ i. inner_end k levels i s z0) inner_n.count (number_in k levels text s) inner-among)

  closes-at : (let m = suc (number_in k levels text s inner_n.count) in closing_of 0 m (drop m (entries_in k text)) ≡ Some own.to)
  closes-at =
      let m = suc (number_in k levels text s inner_n.count) in
      let same : length pre + length inner_n.inner ≡ own.to = omega (arith, pre-long, known.number, known.long, own.number, own.last) in
      ap (λ es. closing_of 0 m (drop m es)) (sym entries-are)
      ∙ closing (suc levels) pre inner_n.inner (inner_n.closes ∷ inner_n.later) text (λ i. inner_end k levels i s z0) inner_n.count (number_in k levels text s) inner-among inner_n.closes inner_n.later refl inner_n.name_end
      ∙ ap Some same

  begins-at : (i : ℕ) → i ≤ inner_n.count → BeginsAt (entries_in k text) (suc own.from) (cut_in k levels text s i) (number_in k levels text s i)
  begins-at i l =
      let first : number_in k levels text s 0 ≡ suc own.from = omega (arith, own.number) in
      subst (λ m. BeginsAt (entries_in k text) m (cut_in k levels text s i) (number_in k levels text s i)) first (inner-found.goes_on 0 i (omega arith) l)

  block-over : (i m : ℕ) → i + m ≤ inner_n.count → is_over i m (run_at k levels s z0) ≡ (i + m == inner_n.count)
  unfolding run
  block-over i m l =
      over-at (run_at k levels s z0) (leads-of k (run_at k levels s z0) (is_block_run levels (moved s.at z0) (point_of s.start))) inner_n.count i m inner_n.go inner_n.over l

pub inner-numbers-law : InnerNumbersLaw
inner-numbers-law k levels text s chosen name left =
    let r = run_at k levels s (start_of text) in
    let inner_n = (nested-numbers k levels text s chosen name left).numbers in
    let b = block-entries k text s chosen in
    let f = inner-found k levels text s chosen name left in
    record {
      opens = b.from;
      closes = b.to;
      mode = s.start.held.mode;
      before = b.number;
      opening = b.opens;
      says_block = subst (λ (x : Block). SaysBlock (entries_in k text) b.from b.to (suc levels) x s.start.held.mode) name (subst (λ n. SaysBlock (entries_in k text) b.from b.to n s.name s.start.held.mode) left b.says);
      mode_is = refl;
      count = inner_n.count;
      go = inner_n.go;
      most = λ i g. few-go (turn_of r) inner_n.count i (true, 0) r.place r.point g inner_n.over;
      over = block-over k levels text s chosen name left;
      begins = begins-at k levels text s chosen name left;
      goes_on = f.goes_on;
      rises = f.rises;
      last = f.last;
      not_last = f.not_last;
      closing = closes-at k levels text s chosen name left;
      says = f.says;
    }
