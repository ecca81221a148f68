-- The test of an edit inside some pieces of a run in bytes, by the notes of a reading: of any run, of a text's and of a content block's.
use Rattle.typst_edits.proofs.Cited.{◌≡◌, ℕ, zero, suc, ◌+◌, ◌-◌, ◌<◌, ◌≤◌, ◌^◌, Bool, true, List, [], ◌∷◌, ◌++◌, length, take, append_assoc, refl, ap, sym, ◌∙◌, subst, arith, append-nil, Some, Place, moved, CharClasses, width, Ask, shift, Point, gap_of, state_of, Trivia, point_of, max_depth, start_of, parsed, log, rules, whole, highest, lowest, AllEndBy, AllBeginIn, note_at, looks_next, cut_after, AllGo, End, asks_of, chain, piece_at, start, lead, tail, whole_of, Sequence, turn_of, first_of, first_end, then_of, then_end, rest_of, noting, notes_in, Spot, unit_at, around, ended, Outcome, repeated, run, start_point, moved-sum, text_run, onwards_at, run_mark, asked_past, map-append, Mark, State, ends_block, markup_turn, markup_reading, look_first, look_again, bracket, inner_lead, inner_run, inner_tail, inner_close, run_at, opened_at, tail_at, close_at, left_at, inner_both, onwards_past, left_past, blocks_of_text, block_at, PieceNote, JointDecisionLaw, noted_at, RunDecisionLaw, TextReplacement, text_before, start_before}
use Rattle.typst_edits.specs.InnerBytes.{InnerDecisionLaw}
use Rattle.typst_edits.proofs.Boundary.{Begins, begins-shift, looks_in, each-ends, made-add, go-add, noted-at, begins-append, pieces-begin, piece_mark}
use Rattle.typst_edits.proofs.Bytes.{AllFrom, begin-by, begin-to, AllMarks, none-hand, marks-append}
use Rattle.typst_edits.proofs.EmptyRuns.{Never}
use Rattle.typst_edits.proofs.Outcomes.{shift-twice, shift-zero, shift-append}
use Rattle.typst_edits.proofs.PieceAsks.{lifted, lifted_note, lifted-count, asks_in, cut, lifted-none, low-shift}
use Rattle.typst_edits.proofs.Splice.{count-append, count-none, count-made}
use Rattle.typst_edits.proofs.Within.{AllAt, at-most}
use Rattle.typst_edits.proofs.BlockRuns.{whole-is, within, sane, content_by, by_run, content-is, content-split, content-taken}
use Rattle.typst_edits.proofs.Runs.{repeated-chain, chain-state, chain-taken, split-taken}
use Rattle.typst_edits.proofs.RunTrees.{whole-asks, chain-last}
use Rattle.typst_edits.proofs.Joint.{onwards-fronted, text-taking, block-taking}
use Rattle.typst_language.specs.declared.calls.Block.TheVariants as block
use Rattle.typst_edits.proofs.Blocks.{ends}
use Rattle.typst_edits.proofs.Edit.{among}
use Rattle.typst_edits.proofs.Spots.{Lawful}
use Rattle.typst_edits.proofs.Law.{inside-level}
use Rattle.typst_edits.proofs.Text.{content-reads}
use Rattle.typst_edits.proofs.Looks.{ending, from-byte, looks-both, looks-first, looks-lowered, looks-raised, looks-second, looks-shifted, looks-split}

-- ---- the note

pub nothing-more : (n : ℕ) → n + 0 ≡ n
nothing-more n = omega arith

-- where the token after i pieces begins, or without any the run
pub cut-here : (text : List ℕ) (i : ℕ) (e : End (Bool × ℕ)) (at : ℕ) → (0 < i → at ≡ width (take (e.taken + gap_of e.state.known) text)) → (i ≡ 0 → at ≡ width (take e.taken text)) → at ≡ width (take (cut_after i e) text)
cut-here text i e at some h = grind arith

-- by the point before the look at the run's first token, and that look; by where the run begins, how many levels are left in it, what is asked before it and after it, and after pieces
-- that end so, and where these end in the text
module _ (k : CharClasses) (text : List ℕ) (r : Sequence) (first : Point) (ls : List Ask) (left a : ℕ) (before after : List Ask) (behind : End (Bool × ℕ) → List Ask) (at : End (Bool × ℕ) → ℕ) where
  abbrev z0 : Place
  z0 = start_of text

  -- The note where j pieces end, and what its numbers say of what was asked before it and after it.
  pub record NoteIn (j : ℕ) (e : End (Bool × ℕ)) : Type 0 where
    pub told : PieceNote (log k text) left text (record e { taken = at e })
    pub start : 0 < j → told.note.start ≡ width (take (at e + gap_of e.state.known) text)
    pub start_first : j ≡ 0 → told.note.start ≡ width (take (at e + gap_of first.known) text)
    pub count : length told.earlier ≡ notes_in before + notes_in (asks_of (first_of j r))
    pub reached : (front more : List ℕ) → text ≡ front ++ more → highest told.earlier told.note.reach ≤ width front
        → AllEndBy (length front) before × (0 < j → AllEndBy (length front) (shift a (ls ++ asks_of (first_of j r))))
    pub reached_too : (front more : List ℕ) → text ≡ front ++ more → AllEndBy (length front) before → (0 < j → AllEndBy (length front) (shift a (ls ++ asks_of (first_of j r)))) → highest told.earlier told.note.reach ≤ width front
    pub begun : (b : ℕ) → b < lowest told.later (log k text).least → AllFrom b z0 (shift (at e) (behind e)) × AllFrom b z0 after
    pub begun_too : (b : ℕ) → 0 < j → b < 2 ^ 64 - 1 → AllFrom b z0 (shift (at e) (behind e)) → AllFrom b z0 after → b < lowest told.later (log k text).least
    pub placed : AllAt (length text) (shift (at e) (behind e))
    pub placed_after : AllAt (length text) after

  module _ (same : state_of first ≡ state_of r.point) (bare : AllMarks Never ls) (f : ℕ) (levels : max_depth - f ≡ left) (there : (e : End (Bool × ℕ)) → at e ≡ a + e.taken)
      (begins : (e : End (Bool × ℕ)) → Begins (looks_in r (moved e.taken r.place) e.state) (behind e))
      (all : (j : ℕ) → AllGo (first_of j r) → (parsed k max_depth text).asks ≡ before ++ (lifted a f (asks_in r first ls j (behind (first_end j r))) ++ after)) where
    -- what the note says, and the looks after it
    noted-state : (j : ℕ) → state_of (noted_at r first j) ≡ state_of (first_end j r).state
    noted-state j = grind arith

    noted-gap : (j : ℕ) → 0 < j → gap_of (noted_at r first j).known ≡ gap_of (first_end j r).state.known
    noted-gap j l = grind arith

    first-gap : (j : ℕ) → j ≡ 0 → gap_of (noted_at r first j).known ≡ gap_of first.known
    first-gap j e = grind arith

    looks-from : (b d : ℕ) (z : Place) (j : ℕ) → 0 < j → (let e = first_end j r in AllFrom b z (shift d (shift e.taken (behind e))) → AllFrom b z (shift d (looks_next r ls j)))
    looks-from b d z zero l h = absurd (omega (arith, l))
    looks-from b d z (suc j) l h =
        let e = first_end (suc j) r in
        let ahead = looks_in r (moved e.taken r.place) e.state in
        let next = begins-shift e.taken ahead (behind e) (begins e) in
        looks-first (looks-shifted (from-byte b z) d) (shift e.taken ahead) next.more (subst (λ u. AllFrom b z (shift d u)) next.is h)

    pub note-in : (j : ℕ) → AllGo (first_of j r) → NoteIn j (first_end j r)
    note-in j g =
        let e = first_end j r in
        let c = cut r first ls j bare g in
        let p = note_at r first j in
        let next = looks_next r ls j in
        let low = lifted a f in
        let own = noting (lifted_note a f p) in
        let rest = shift e.taken (behind e) in
        let asks : (parsed k max_depth text).asks ≡ (before ++ low c.early) ++ own ∷ (low next ++ (low rest ++ after)) =
        all j g ∙ ap (λ u. before ++ (low (u ++ rest) ++ after)) c.is ∙ simp (map-append, append_assoc) in
        let t = noted-at k text (before ++ low c.early) (low next ++ (low rest ++ after)) (a + e.taken) p.gap (f + 0) p.mark p.state asks in
        let place : a + e.taken ≡ at e = sym (there e) in
        let none : f + 0 ≡ f = omega arith in
        let late : shift a rest ≡ shift (at e) (behind e) = shift-twice a e.taken (behind e) ∙ ap (λ n. shift n (behind e)) place in
        record {
          told = record {
            earlier = t.earlier;
            note = t.note;
            later = t.later;
            notes = t.notes;
            mark = t.mark;
            before = t.before ∙ ap (λ n. width (take n text)) place;
            levels = t.levels ∙ ap (λ n. max_depth - n) none ∙ levels;
            state = t.state ∙ noted-state j;
          };
          start = λ l. t.start ∙ ap (λ n. width (take (n + p.gap) text)) place ∙ ap (λ n. width (take (at e + n) text)) (noted-gap j l);
          start_first = λ z. t.start ∙ ap (λ n. width (take (n + p.gap) text)) place ∙ ap (λ n. width (take (at e + n) text)) (first-gap j z);
          count = (let own_early = lifted-count a f c.early in omega (arith, t.count, count-append before (low c.early), own_early, c.count));
          reached = λ front more is_front h.
              (let n = length front in
              let both = t.reached front more is_front h in
              (looks-first (ending n) before (low c.early) both, λ l. c.ended n a l (looks-raised (looks-shifted (ending n) a) f c.early (looks-second (ending n) before (low c.early) both))));
          reached_too = λ front more is_front h i. (let n = length front in t.reached_too front more is_front (looks-both (ending n) before (low c.early) h (looks-lowered (looks-shifted (ending n) a) f c.early (c.ends n a i))));
          begun = λ b l.
              (let one = looks-split (from-byte b z0) (low next) (low rest ++ after) (t.begun b l) in
              let two = looks-split (from-byte b z0) (low rest) after one.1 in
              (subst (λ u. AllFrom b z0 u) late (looks-raised (looks-shifted (from-byte b z0) a) f rest two.0), two.1));
          begun_too = λ b l big h i.
              (let here = subst (λ u. AllFrom b z0 u) (sym late) h in
              t.begun_too b big (looks-both (from-byte b z0) (low next) (low rest ++ after) (looks-lowered (looks-shifted (from-byte b z0) a) f next (looks-from b a z0 j l here)) (looks-both (from-byte b z0) (low rest) after (looks-lowered (looks-shifted (from-byte b z0) a) f rest here) i)));
          placed = (let n = length text in subst (λ u. AllAt n u) late (looks-raised (looks-shifted (at-most n) a) f rest (looks-first (at-most n) (low rest) after (looks-second (at-most n) (low next) (low rest ++ after) t.placed))));
          placed_after = (let n = length text in looks-second (at-most n) (low rest) after (looks-second (at-most n) (low next) (low rest ++ after) t.placed));
        }

    -- The note where the n pieces after the first i end.
    pub note-both : (i n : ℕ) → AllGo (first_of i r) → AllGo (then_of i n r) → (let f = then_end i n r in NoteIn (i + n) (record f { taken = (first_end i r).taken + f.taken }))
    note-both i n g h =
        subst (NoteIn (i + n)) (made-add (turn_of r) (looks_in r) (each-ends r) i n (true, 0) r.place r.point) (note-in (i + n) (go-add (turn_of r) (looks_in r) (each-ends r) i n (true, 0) r.place r.point g h))

-- ---- a text

pub lead-bare : (k : CharClasses) (z : Place) → AllMarks Never (lead k z).asks
unfolding run
lead-bare k z = none-hand Never k start.held start.known z

module _ (k : CharClasses) (text : List ℕ) where
  abbrev text_start : Place
  text_start = start_of text

  -- what is asked after pieces that end so
  abbrev asks_by : End (Bool × ℕ) → List Ask
  asks_by e = let q = repeated (piece_at k) e.value (moved e.taken text_start) e.state in q.asks ++ shift q.taken (tail k (e.taken + q.taken) q.state text_start).asks

  all-asks : (j : ℕ) → AllGo (first_of j (text_run k text_start)) → (parsed k max_depth text).asks ≡ lifted 0 0 (asks_in (text_run k text_start) start (lead k text_start).asks j (asks_by (first_end j (text_run k text_start)))) ++ []
  unfolding run
  all-asks j g =
      let os = first_of j (text_run k text_start) in
      let s = (lead k text_start).state in
      let e = first_end j (text_run k text_start) in
      let q = rest_of j 0 (text_run k text_start) in
      let c = chain os q in
      let t = tail k (e.taken + q.taken) q.state text_start in
      let split : repeated (piece_at k) (true, 0) text_start s ≡ c = repeated-chain (piece_at k) (within k) j (true, 0) text_start s g in
      let late : tail k c.taken c.state text_start ≡ t = ap (λ n. tail k n c.state text_start) (chain-taken (true, 0) s os q) ∙ ap (λ u. tail k (e.taken + q.taken) u text_start) (chain-state os q) in
      let all = asks_in (text_run k text_start) start (lead k text_start).asks j (asks_by e) in
      ap (λ (o : Outcome (Unit {0})). o.asks) (whole-is k text)
      ∙ ap (λ (o : Outcome (Bool × ℕ)). (whole_of (lead k text_start) o (tail k o.taken o.state text_start)).asks) split
      ∙ ap (λ (o : Outcome (Unit {0})). (whole_of (lead k text_start) c o).asks) late
      ∙ whole-asks k text_start c t ∙ ap (λ u. run_mark ∷ u) (chain-last (lead k text_start).asks (true, 0) s os q t)
      ∙ sym (append-nil (lifted 0 0 all) ∙ lifted-none all)

  begins : (e : End (Bool × ℕ)) → Begins (looks_in (text_run k text_start) (moved e.taken text_start) e.state) (asks_by e)
  begins e =
      let looks = looks_in (text_run k text_start) (moved e.taken text_start) e.state in
      begins-append looks (repeated (piece_at k) e.value (moved e.taken text_start) e.state).asks _ (pieces-begin (text_run k text_start) e.value (moved e.taken text_start) e.state)

  -- the note where j pieces end, and what its numbers say
  abbrev pub TextNote : ℕ → End (Bool × ℕ) → Type 0
  TextNote j e = NoteIn k text (text_run k text_start) start (lead k text_start).asks max_depth 0 [] [] asks_by (λ e. e.taken) j e

  pub text-note : (j : ℕ) → AllGo (first_of j (text_run k text_start)) → TextNote j (first_end j (text_run k text_start))
  unfolding run
  text-note j g = note-in k text (text_run k text_start) start (lead k text_start).asks max_depth 0 [] [] asks_by (λ e. e.taken) refl (lead-bare k text_start) 0 refl (λ e. omega arith) begins all-asks j g

  -- the same for the n pieces that follow the first i
  abbrev pub both : ℕ → ℕ → End (Bool × ℕ)
  both i n = let f = then_end i n (text_run k text_start) in record f { taken = (first_end i (text_run k text_start)).taken + f.taken }

  pub text-both : (i n : ℕ) → AllGo (first_of i (text_run k text_start)) → AllGo (then_of i n (text_run k text_start)) → TextNote (i + n) (both i n)
  unfolding run
  text-both i n g h =
      note-both k text (text_run k text_start) start (lead k text_start).asks max_depth 0 [] [] asks_by (λ e. e.taken) refl (lead-bare k text_start) 0 refl (λ e. omega arith) begins all-asks i n g h

  -- as many notes stand before it as there are in them
  pub text-count : (j : ℕ) (e : End (Bool × ℕ)) (n : TextNote j e) → length n.told.earlier ≡ notes_in (asks_of (first_of j (text_run k text_start)))
  text-count j e n = let none : 0 + notes_in (asks_of (first_of j (text_run k text_start))) ≡ notes_in (asks_of (first_of j (text_run k text_start))) = omega arith in n.count ∙ none

  -- where the token after them begins
  pub text-token : (j : ℕ) (g : AllGo (first_of j (text_run k text_start))) → (text-note j g).told.note.start ≡ width (take (cut_after j (first_end j (text_run k text_start))) text)
  unfolding run
  text-token j g = let e = first_end j (text_run k text_start) in let n = text-note j g in cut-here text j e n.told.note.start n.start (λ z. n.start_first z ∙ ap (λ a. width (take a text)) (nothing-more e.taken))

  behind-is : (i n : ℕ) → asks_by (both i n) ≡ (onwards_at i n (text_run k text_start)).asks
  behind-is i n =
      let u = both i n in
      ap (λ (q : Outcome (Bool × ℕ)). q.asks ++ shift q.taken (tail k (u.taken + q.taken) q.state text_start).asks) (ap (λ w. repeated (piece_at k) u.value w u.state) (moved-sum (first_end i (text_run k text_start)).taken (then_end i n (text_run k text_start)).taken text_start))

  -- what its numbers say of the looks before it
  pub reaches : (j : ℕ) (e : End (Bool × ℕ)) (n : TextNote j e) (front more : List ℕ) → text ≡ front ++ more → 0 < j → highest n.told.earlier n.told.note.reach ≤ width front → AllEndBy (length front) ((lead k text_start).asks ++ asks_of (first_of j (text_run k text_start)))
  reaches j e n front more same l h = subst (λ u. AllEndBy (length front) u) (shift-zero ((lead k text_start).asks ++ asks_of (first_of j (text_run k text_start)))) ((n.reached front more same h).1 l)

  pub reaches-too : (j : ℕ) (e : End (Bool × ℕ)) (n : TextNote j e) (front more : List ℕ) → text ≡ front ++ more → (0 < j → AllEndBy (length front) ((lead k text_start).asks ++ asks_of (first_of j (text_run k text_start)))) → highest n.told.earlier n.told.note.reach ≤ width front
  reaches-too j e n front more same h = n.reached_too front more same tt (λ l. subst (λ u. AllEndBy (length front) u) (sym (shift-zero ((lead k text_start).asks ++ asks_of (first_of j (text_run k text_start))))) (h l))

-- ---- the law

pub run-decision-law : RunDecisionLaw
run-decision-law k edit i n past g h e =
    let text = text_before edit in
    let z = start_before edit in
    let one = text-note k text i g in
    let two = text-both k text i n g h in
    let r = rest_of i n (text_run k z) in
    let b = width (edit.front ++ edit.old) in
    let end = (length edit.front + length edit.old) + past in
    let asks = r.asks ++ shift r.taken (tail k (end + r.taken) r.state z).asks in
    let here = (both k text i n).taken in
    let asks_is : shift here (asks_by k text (both k text i n)) ≡ shift end asks = ap (shift here) (behind-is k text i n) ∙ ap (λ j. shift j (r.asks ++ shift r.taken (tail k (j + r.taken) r.state z).asks)) e in
    record {
      begins = one.told;
      ends = two.told;
      before = λ l m. reaches k text i (first_end i (text_run k z)) one edit.front (edit.old ++ edit.rest) refl l m;
      before_too = λ m. reaches-too k text i (first_end i (text_run k z)) one edit.front (edit.old ++ edit.rest) refl m;
      after_too = λ l big m. two.begun_too b l big (subst (λ ls. AllFrom b z ls) (sym asks_is) (begin-to edit.front edit.old edit.rest end past asks refl m)) tt;
      after = λ l. begin-by edit.front edit.old edit.rest end past asks refl (subst (λ ls. AllAt (length text) ls) asks_is two.placed) (subst (λ ls. AllFrom b z ls) asks_is (two.begun b l).0);
    }

-- what its numbers say of the looks after known trivia
module _ (k : CharClasses) (edit : TextReplacement) (i n past : ℕ) (t : Trivia) (known : (then_end i n (text_run k (start_before edit))).state.known ≡ Some t)
    (sum : ((first_end i (text_run k (start_before edit))).taken + (then_end i n (text_run k (start_before edit))).taken) + t.gap ≡ (length edit.front + length edit.old) + past) (two : TextNote k (text_before edit) (i + n) (both k (text_before edit) i n)) where
  abbrev text : List ℕ
  text = text_before edit

  abbrev z : Place
  z = start_before edit

  abbrev end : ℕ
  end = (length edit.front + length edit.old) + past

  abbrev asks : List Ask
  asks = asked_past k i n t z

  asks-are : shift (both k text i n).taken (asks_by k text (both k text i n)) ≡ shift end asks
  asks-are =
      let here = (both k text i n).taken in
      ap (shift here) (behind-is k text i n ∙ (onwards-fronted (text_run k z) (text-taking k) i n t known).asks) ∙ shift-twice here t.gap asks ∙ ap (λ j. shift j asks) sum

  pub begins-past : width (edit.front ++ edit.old) < lowest two.told.later (log k text).least → AllBeginIn past edit.rest asks
  begins-past l =
      let b = width (edit.front ++ edit.old) in
      begin-by edit.front edit.old edit.rest end past asks refl (subst (λ ls. AllAt (length text) ls) asks-are two.placed) (subst (λ ls. AllFrom b z ls) asks-are (two.begun b l).0)

  pub begins-past-too : 0 < i + n → width (edit.front ++ edit.old) < 2 ^ 64 - 1 → AllBeginIn past edit.rest asks → width (edit.front ++ edit.old) < lowest two.told.later (log k text).least
  begins-past-too l big m = let b = width (edit.front ++ edit.old) in two.begun_too b l big (subst (λ ls. AllFrom b z ls) (sym asks-are) (begin-to edit.front edit.old edit.rest end past asks refl m)) tt

  pub trivia-end : 0 < i + n → two.told.note.start ≡ width (take ((both k text i n).taken + t.gap) text)
  trivia-end l = let here = (both k text i n).taken in two.start l ∙ ap (λ v. width (take (here + gap_of v) text)) known

pub joint-decision-law : JointDecisionLaw
joint-decision-law k edit i n past t g h known e =
    let text = text_before edit in
    let z = start_before edit in
    let one = text-note k text i g in
    let two = text-both k text i n g h in
    record {
      begins = one.told;
      ends = two.told;
      token = one.start;
      trivia_end = trivia-end k edit i n past t known e two;
      before = λ l m. reaches k text i (first_end i (text_run k z)) one edit.front (edit.old ++ edit.rest) refl l m;
      before_too = λ m. reaches-too k text i (first_end i (text_run k z)) one edit.front (edit.old ++ edit.rest) refl m;
      after = begins-past k edit i n past t known e two;
      after_too = begins-past-too k edit i n past t known e two;
    }

-- ---- what is asked in a content block

module _ (k : CharClasses) (levels : ℕ) (inner_z : Place) (s : Point) where
  abbrev pub the_run : Sequence
  the_run = inner_run k levels inner_z s

  -- at its bracket
  abbrev pub asks_before : List Ask
  asks_before = (look_first k levels inner_z s).asks ++ ((look_again k levels inner_z s).asks ++ (bracket k levels inner_z s).asks)

  abbrev pub asks_first : List Ask
  asks_first = (inner_lead k levels inner_z s).asks

  abbrev pub first_point : Point
  first_point = (bracket k levels inner_z s).state

  abbrev pub inner_run_mark : Ask
  inner_run_mark = piece_mark 0 (true, 0) first_point

  abbrev pub opened : ℕ
  opened = (bracket k levels inner_z s).taken

  -- by its run and what comes after it
  pub content-asks : (q : Outcome (Bool × ℕ)) (t : Outcome (Unit {0})) (close : Outcome Bool)
      → (content_by k levels inner_z s q t close).asks ≡ asks_before ++ shift opened (inner_run_mark ∷ ((asks_first ++ q.asks) ++ shift q.taken (t.asks ++ shift t.taken close.asks)))
  unfolding run
  content-asks q t close =
      let none : (n : ℕ) → n + 0 ≡ n = λ n. omega arith in
      let zero : (n : ℕ) → 0 + n ≡ n = λ n. omega arith in
      let in_run = shift 0 (inner_run_mark ∷ shift 0 (asks_first ++ shift 0 (q.asks ++ []))) ++ shift (0 + (0 + (0 + (q.taken + 0)))) t.asks in
      let body = ((in_run ++ []) ++ []) ++ shift ((((0 + (0 + (0 + (q.taken + 0)))) + t.taken) + 0) + 0) close.asks in
      let all : (look_first k levels inner_z s).asks ++ shift 0 (((look_again k levels inner_z s).asks ++ shift 0 (((bracket k levels inner_z s).asks ++ shift opened body) ++ [])) ++ [])
      ≡ asks_before ++ shift opened (inner_run_mark ∷ ((asks_first ++ q.asks) ++ shift q.taken (t.asks ++ shift t.taken close.asks))) = simp (shift-zero, append-nil, none, zero, shift-append, shift-twice, append_assoc) in
      all

  -- what comes after some pieces, by where they end
  abbrev pub rest_by : End (Bool × ℕ) → Outcome (Bool × ℕ)
  rest_by e = repeated (turn_of the_run) e.value (moved e.taken the_run.place) e.state

  abbrev pub tail_by : End (Bool × ℕ) → Outcome (Unit {0})
  tail_by e = let q = rest_by e in inner_tail k levels (e.taken + q.taken) q.state the_run.place

  abbrev pub close_by : End (Bool × ℕ) → Outcome Bool
  close_by e = let q = rest_by e in let t = tail_by e in inner_close k levels ((e.taken + q.taken) + t.taken) t.state the_run.place

  abbrev pub inner_asks_by : End (Bool × ℕ) → List Ask
  inner_asks_by e = let q = rest_by e in let t = tail_by e in q.asks ++ shift q.taken (t.asks ++ shift t.taken (close_by e).asks)

  -- by its pieces and what comes after j of them
  pub block-asks : (j : ℕ) → AllGo (first_of j the_run)
      → (block_at k (suc levels) block.Content inner_z s).asks ≡ asks_before ++ shift opened (inner_run_mark ∷ ((asks_first ++ asks_of (first_of j the_run)) ++ shift (first_end j the_run).taken (inner_asks_by (first_end j the_run))))
  block-asks j g =
      let r = the_run in
      let os = first_of j r in
      let e = first_end j r in
      let q = rest_by e in
      let o = repeated (turn_of r) (true, 0) r.place r.point in
      let c = chain os q in
      let split : o ≡ c = repeated-chain (turn_of r) (λ x. (sane k levels (markup_turn true ends_block x)).within) j (true, 0) r.place r.point g in
      let taken : c.taken ≡ e.taken + q.taken = chain-taken (true, 0) r.point os q in
      let state : c.state ≡ q.state = chain-state os q in
      let is : block_at k (suc levels) block.Content inner_z s ≡ content_by k levels inner_z s c (tail_by e) (close_by e) =
      content-is k levels inner_z s ∙ ap (λ (u : Outcome (Bool × ℕ)). by_run k levels inner_z s u u.taken u.state) split ∙ ap (λ n. by_run k levels inner_z s c n c.state) taken ∙ ap (by_run k levels inner_z s c (e.taken + q.taken)) state in
      let all = record (tail_by e) { asks = (tail_by e).asks ++ shift (tail_by e).taken (close_by e).asks } in
      ap (λ (u : Outcome (Unit {0})). u.asks) is ∙ content-asks c (tail_by e) (close_by e) ∙ ap (λ u. asks_before ++ shift opened (inner_run_mark ∷ u)) (chain-last asks_first (true, 0) r.point os q all)

module _ (k : CharClasses) (levels : ℕ) where
  pub inner-lead-bare : (inner_z : Place) (s : Point) → AllMarks Never (inner_lead k levels inner_z s).asks
  unfolding run
  inner-lead-bare inner_z s = let b = bracket k levels inner_z s in none-hand Never k b.state.held b.state.known (moved b.taken inner_z)

  pub before-marks : (P : ℕ → ℕ → Mark → State → Type 0) (inner_z : Place) (s : Point) → AllMarks P (asks_before k levels inner_z s)
  unfolding run
  before-marks P inner_z s =
      let s1 = (look_first k levels inner_z s).state in
      let s2 = (look_again k levels inner_z s).state in
      marks-append P (look_first k levels inner_z s).asks _ (none-hand P k s.held s.known inner_z)
      (marks-append P (look_again k levels inner_z s).asks (bracket k levels inner_z s).asks (none-hand P k s1.held s1.known inner_z) (none-hand P k s2.held s2.known inner_z))

-- ---- the note where pieces of a block's run end

module _ (k : CharClasses) (levels : ℕ) (text : List ℕ) (c : Spot (Unit {0})) (is : parsed k max_depth text ≡ around c (unit_at c (start_of text)) c.node)
    (reads : unit_at c (start_of text) ≡ ended (block_at k (suc levels) block.Content (moved c.at (start_of text)) (point_of c.start))) (left : max_depth - c.fewer ≡ suc levels) where
  abbrev inner_z0 : Place
  inner_z0 = start_of text

  abbrev inner_z : Place
  inner_z = moved c.at inner_z0

  abbrev s : Point
  s = point_of c.start

  abbrev r : Sequence
  r = the_run k levels inner_z s

  abbrev at : ℕ
  at = opened_at k levels c inner_z0

  -- what is asked before the run and after the block
  abbrev asks_until : List Ask
  asks_until = c.before ++ lifted c.at c.fewer (asks_before k levels inner_z s)

  abbrev asks_after : List Ask
  asks_after = shift (c.at + (unit_at c inner_z0).taken) c.after

  until-count : notes_in asks_until ≡ notes_in c.before
  until-count =
      let pre = asks_before k levels inner_z s in
      let own = lifted-count c.at c.fewer pre in
      omega (arith, count-append c.before (lifted c.at c.fewer pre), own, count-none pre (before-marks k levels Never inner_z s))

  inner-all-asks : (j : ℕ) → AllGo (first_of j r) → (parsed k max_depth text).asks ≡ asks_until ++ (lifted at c.fewer (asks_in r (first_point k levels inner_z s) (asks_first k levels inner_z s) j (inner_asks_by k levels inner_z s (first_end j r))) ++ asks_after)
  inner-all-asks j g =
      let all = asks_in r (first_point k levels inner_z s) (asks_first k levels inner_z s) j (inner_asks_by k levels inner_z s (first_end j r)) in
      let flat : (pre own : List Ask) → c.before ++ (lifted c.at c.fewer (pre ++ shift (opened k levels inner_z s) own) ++ asks_after) ≡ (c.before ++ lifted c.at c.fewer pre) ++ (lifted at c.fewer own ++ asks_after) = λ pre own. simp (map-append, low-shift, shift-twice, append_assoc) in
      ap (λ (o : Outcome (Unit {0})). o.asks) is ∙ ap (λ u. c.before ++ (lifted c.at c.fewer u ++ asks_after)) (ap (λ (o : Outcome (Unit {0})). o.asks) reads ∙ block-asks k levels inner_z s j g) ∙ flat (asks_before k levels inner_z s) all

  first-at : (e : End (Bool × ℕ)) → (at + e.taken) + gap_of (first_point k levels inner_z s).known ≡ at + e.taken
  unfolding run
  first-at e = nothing-more (at + e.taken)

  inner-begins : (e : End (Bool × ℕ)) → Begins (looks_in r (moved e.taken r.place) e.state) (inner_asks_by k levels inner_z s e)
  inner-begins e = grind (arith, begins-append, pieces-begin)

  -- the note where j pieces end, and what its numbers say
  abbrev BlockNote : ℕ → End (Bool × ℕ) → Type 0
  BlockNote j e = NoteIn k text r (first_point k levels inner_z s) (asks_first k levels inner_z s) (suc levels) at asks_until asks_after (inner_asks_by k levels inner_z s) (λ e. at + e.taken) j e

  note-at : (j : ℕ) → AllGo (first_of j r) → BlockNote j (first_end j r)
  unfolding run
  note-at j g =
      note-in k text r (first_point k levels inner_z s) (asks_first k levels inner_z s) (suc levels) at asks_until asks_after (inner_asks_by k levels inner_z s) (λ e. at + e.taken) refl (inner-lead-bare k levels inner_z s) c.fewer left (λ e. refl) inner-begins inner-all-asks j g

  -- the same for the n pieces that follow the first i
  inner-note-both : (i n : ℕ) → AllGo (first_of i r) → AllGo (then_of i n r) → (let f = then_end i n r in BlockNote (i + n) (record f { taken = (first_end i r).taken + f.taken }))
  unfolding run
  inner-note-both i n g h =
      note-both k text r (first_point k levels inner_z s) (asks_first k levels inner_z s) (suc levels) at asks_until asks_after (inner_asks_by k levels inner_z s) (λ e. at + e.taken) refl (inner-lead-bare k levels inner_z s) c.fewer left (λ e. refl) inner-begins inner-all-asks i n g h

  abbrev asks_from : ℕ → ℕ → List Ask
  asks_from i n = let q = rest_of i n r in let t = tail_at k levels i n c inner_z0 in q.asks ++ shift q.taken (t.asks ++ shift t.taken (close_at k levels i n c inner_z0).asks)

  inner-behind-is : (i n : ℕ) → (let f = then_end i n r in inner_asks_by k levels inner_z s (record f { taken = (first_end i r).taken + f.taken }) ≡ asks_from i n)
  inner-behind-is i n = grind (arith, moved-sum)

  -- how many characters the block takes
  unit-taken : (i n : ℕ) → AllGo (first_of i r) → AllGo (then_of i n r)
      → (unit_at c inner_z0).taken ≡ opened k levels inner_z s + (((first_end i r).taken + (then_end i n r).taken) + ((rest_of i n r).taken + ((tail_at k levels i n c inner_z0).taken + (close_at k levels i n c inner_z0).taken)))
  unit-taken i n g h =
      let q = rest_of i n r in
      let t = tail_at k levels i n c inner_z0 in
      let close = close_at k levels i n c inner_z0 in
      let split = ap (λ (o : Outcome (Unit {0})). o.taken) (content-split k levels inner_z s i n g h) in
      omega (arith, ap (λ (o : Outcome (Unit {0})). o.taken) reads, split, content-taken k levels inner_z s (chain (first_of i r) (chain (then_of i n r) q)) t close, split-taken r i n)

-- ---- after the trivia

-- what is asked there, up to the closing bracket
abbrev asks_past : CharClasses → ℕ → ℕ → ℕ → Trivia → Spot (Unit {0}) → Place → List Ask
asks_past k levels i n t c inner_z = let o = onwards_past k levels i n t c inner_z in o.asks ++ shift o.taken (close_at k levels i n c inner_z).asks

-- what is asked after known trivia, with what is after it
pub past-both : (q : Outcome (Bool × ℕ)) (tail : Outcome (Unit {0})) (close asks : List Ask) (gap more : ℕ) → q.asks ++ shift q.taken tail.asks ≡ shift gap asks → q.taken + tail.taken ≡ gap + more
    → q.asks ++ shift q.taken (tail.asks ++ shift tail.taken close) ≡ shift gap (asks ++ shift more close)
past-both q tail close asks gap more is took =
    simp (map-append, shift-twice, ← append_assoc, is, took)

past-trivia : (k : CharClasses) (levels i n : ℕ) (c : Spot (Unit {0})) (inner_z : Place) (t : Trivia) → (then_end i n (run_at k levels c inner_z)).state.known ≡ Some t
    → (let q = rest_of i n (run_at k levels c inner_z) in let u = tail_at k levels i n c inner_z in q.asks ++ shift q.taken (u.asks ++ shift u.taken (close_at k levels i n c inner_z).asks) ≡ shift t.gap (asks_past k levels i n t c inner_z))
past-trivia k levels i n c inner_z t known =
    let o = onwards_past k levels i n t c inner_z in
    let f = onwards-fronted (run_at k levels c inner_z) (block-taking k levels) i n t known in
    past-both (rest_of i n (run_at k levels c inner_z)) (tail_at k levels i n c inner_z) (close_at k levels i n c inner_z).asks o.asks t.gap o.taken f.asks f.taken

-- ---- the law

pub inner-decision-law : InnerDecisionLaw
unfolding blocks_of_text
inner-decision-law k levels edit c i n chosen name level g h =
    let text = text_before edit in
    let inner_z = start_before edit in
    let o = parsed k max_depth text in
    let l = among (Lawful inner_z inner_z o o) c _ chosen (inside-level (rules k) k (ends k) max_depth whole inner_z inner_z (start_point markup_reading)) in
    let reads = content-reads k text c chosen levels name level inner_z in
    let one = note-at k levels text c l.old reads level i g in
    let two = inner-note-both k levels text c l.old reads level i n g h in
    let b = width (edit.front ++ edit.old) in
    let end = c.at + (unit_at c inner_z).taken in
    let taken = unit-taken k levels text c l.old reads level i n g h in
    let u = inner_both k levels i n c inner_z in
    let asks = asks_from k levels text c l.old reads level i n in
    let here = ap (shift u.taken) (inner-behind-is k levels text c l.old reads level i n) in
    let placed = subst (λ ls. AllAt (length text) ls) here two.placed in
    let inside = λ (m : b < lowest two.told.later (log k text).least). subst (λ ls. AllFrom b inner_z ls) here (two.begun b m).0 in
    let begun_too = λ (l : 0 < i + n) (big : b < 2 ^ 64 - 1) (p : AllFrom b inner_z (shift u.taken asks)) (q : AllFrom b inner_z (shift end c.after)). two.begun_too b l big (subst (λ ls. AllFrom b inner_z ls) (sym here) p) q in
    let opens = asks_before k levels (moved c.at inner_z) (point_of c.start) in
    let until = lifted c.at c.fewer opens in
    let fronted = onwards-fronted (run_at k levels c inner_z) (block-taking k levels) i n in
    let further = λ (t : Trivia) (known : (then_end i n (run_at k levels c inner_z)).state.known ≡ Some t). ap (shift u.taken) (past-trivia k levels i n c inner_z t known) ∙ shift-twice u.taken t.gap (asks_past k levels i n t c inner_z) in
    record {
      begins = one.told;
      ends = two.told;
      number = one.count ∙ ap (λ m. m + notes_in (asks_of (first_of i (run_at k levels c inner_z)))) (until-count k levels text c l.old reads level);
      number_end = (let r = run_at k levels c inner_z in let a = two.count in let d = until-count k levels text c l.old reads level in omega (arith, a, count-made r i n, d));
      token = one.start;
      token_first = λ m. one.start_first m ∙ ap (λ n. width (take n text)) (first-at k levels text c l.old reads level (first_end i (run_at k levels c inner_z)));
      trivia_end = two.start;
      before = λ m.
          (let n = length edit.front in
          let e = one.reached edit.front (edit.old ++ edit.rest) refl m in
          record { before = looks-first (ending n) c.before until e.0; opens = looks-raised (looks-shifted (ending n) c.at) c.fewer opens (looks-second (ending n) c.before until e.0); before_run = e.1 });
      before_too = λ m. (let n = length edit.front in one.reached_too edit.front (edit.old ++ edit.rest) refl (looks-both (ending n) c.before until m.before (looks-lowered (looks-shifted (ending n) c.at) c.fewer opens m.opens)) m.before_run);
      after = λ past e m.
          record {
            inside = begin-by edit.front edit.old edit.rest u.taken past asks e placed (inside m);
            behind = begin-by edit.front edit.old edit.rest end (past + left_at k levels i n c inner_z) c.after (omega (arith, taken, e)) two.placed_after (two.begun b m).1;
          };
      after_too = λ past e m big f. begun_too m big (begin-to edit.front edit.old edit.rest u.taken past asks e f.inside) (begin-to edit.front edit.old edit.rest end (past + left_at k levels i n c inner_z) c.after (omega (arith, taken, e)) f.behind);
      after_trivia = λ past t known e m.
          record {
            inside = begin-by edit.front edit.old edit.rest (u.taken + t.gap) past (asks_past k levels i n t c inner_z) e (subst (λ ls. AllAt (length text) ls) (further t known) placed) (subst (λ ls. AllFrom b inner_z ls) (further t known) (inside m));
            behind = begin-by edit.front edit.old edit.rest end (past + left_past k levels i n t c inner_z) c.after (omega (arith, taken, e, (fronted t known).taken)) two.placed_after (two.begun b m).1;
          };
      after_trivia_too = λ past t known e m big f.
          begun_too m big (subst (λ ls. AllFrom b inner_z ls) (sym (further t known)) (begin-to edit.front edit.old edit.rest (u.taken + t.gap) past (asks_past k levels i n t c inner_z) e f.inside))
          (begin-to edit.front edit.old edit.rest end (past + left_past k levels i n t c inner_z) c.after (omega (arith, taken, e, (fronted t known).taken)) f.behind);
    }
