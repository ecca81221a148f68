-- What code finds of a candidate that is pieces of a run, a content block's or a text's, by the numbers of its entries and a reading from its first token on.
use Rattle.typst_edits.proofs.Cited.{◌≡◌, ◌↔◌, ℕ, zero, suc, ◌+◌, ◌-◌, ◌<◌, ◌≤◌, Bool, true, false, List, [], ◌∷◌, ◌++◌, length, take, Some, refl, ap, sym, ◌∙◌, subst, arith, Place, moved, CharClasses, Tree, bare, width, position, Note, shift, Outcome, start_point, entered, run, itself, takes, does, peek, no_log, logged, markup_reading, Trivia, gap_of, pending, point_of, moved-sum, Candidate, units_of, spliced, max_depth, log, tree, first_look, look_first, look_again, bracket, inner_lead, run_at, opened_at, EndsBefore, Among, Run, top, cut_at, is_over, Agrees, PassesPieces, Gives, of_block, of_pieces, Before, candidates, path_of, first_place, minds_at, block_run, Around, inner_end, inner_both, level_in, InnerPart, TakesNone, fresh, blocks_of_text, made, AllGo, End, asks_of, piece_at, lead, turn_of, first_of, first_end, then_of, then_end, Spot, entries_from, notes_in, token_start, of_level, cut_after, root_run, text_run, end_note, pieces_log, both_ways, PieceNote, is_block_run, CutOnceLaw, ReadLaw, RunEntriesLaw, RunGives, RunGivesLaw, RunPartLaw, end_alone, read_alone, InnerEntriesLaw, InnerOnceLaw, InnerTestLaw, InnerPartLaw, InnerUnitsLaw, both_end, TextReplacement, text_before, start_before, start_after}
use Rattle.typst_grammar.specs.Pieces.{given}
use Rattle.typst_edits.specs.Frame.{inner as block_inner, inner}
use Rattle.typst_language.specs.declared.calls.Block.TheVariants as block
use Rattle.typst_edits.specs.InnerJoint.{BeginsPast}
use Rattle.typst_edits.proofs.Leading.{no-errors}
use Rattle.typst_edits.proofs.RunCandidates.{begins-well-law, none-before}
use Rattle.typst_edits.proofs.PiecesLog.{pieces-log-law}
use Rattle.typst_edits.proofs.RunSplice.{run-splice-law}
use Rattle.typst_edits.proofs.Outcomes.{shift-zero}
use Rattle.typst_edits.proofs.EntryNumbers.{numbers-of}
use Rattle.typst_edits.proofs.Resumed.{bracket-gap, count-law, markup-of, start-asks, start-known, start-same, start-goes, then-known}
use Rattle.typst_edits.proofs.RunBytes.{inner-decision-law, text-note, text-both, text-count, text-token, reaches, reaches-too, begins-past, begins-past-too, trivia-end}
use Rattle.typst_edits.proofs.Joint.{first-now}
use Rattle.typst_edits.proofs.OneReading.{block-seen, block-sees, takes-some, text-seen}
use Rattle.typst_edits.proofs.ReadAlone.{Rereads, begun, alike, goes-there, gives-to, reads-to}
use Rattle.typst_edits.proofs.RunPieces.{take-past, takes-of}
use Rattle.typst_edits.proofs.Seen.{end-shift}
use Rattle.typst_edits.proofs.Widths.{width-append, short}
use Rattle.typst_edits.proofs.BlockRuns.{first-same}
use Rattle.typst_edits.proofs.Content.{tail-none}
use Rattle.typst_edits.proofs.Boundary.{looks_in, each-ends, made-add, go-add}
use Rattle.typst_edits.proofs.Cuts.{cuts-law}
use Rattle.typst_edits.proofs.NumberedNotes.{number-law}
use Rattle.typst_edits.proofs.Splice.{count-made}
use Rattle.typst_edits.proofs.Looks.{ending, looks-first, looks-second}
use Rattle.typst_edits.proofs.Every.{neither}

-- ---- from characters to bytes

pub behind-end : (front old rest : List ℕ) (past : ℕ) {start : ℕ} → start ≡ width (front ++ (old ++ take past rest)) → width (front ++ old) ≤ start
behind-end front old rest past here =
    omega (arith, here, width-append front old, width-append front (old ++ take past rest), width-append old (take past rest))

-- Where the looks before a token end before a stretch, the token begins there.
token-before : (k : CharClasses) (levels : ℕ) (edit : TextReplacement) (s : Spot (Unit {0})) (i : ℕ) → 0 < i → EndsBefore k levels edit s i → 0 < (first_end i (run_at k levels s (start_before edit))).taken
    → (let e = inner_end k levels i s (start_before edit) in e.taken + gap_of e.state.known ≤ length edit.front)
token-before k levels edit s i some looks more =
    let z = start_before edit in
    let opened = opened_at k levels s z in
    let r = run_at k levels s z in
    let o = inner_lead k levels (moved s.at z) (point_of s.start) in
    let a = block-seen k levels s z i (length edit.front - opened) (end-shift opened (length edit.front - opened) (length edit.front) (o.asks ++ asks_of (first_of i r)) (omega arith) (looks.before_run some)) in
    omega (arith, a, more)

-- Where the looks at a block's bracket end before a stretch, its run begins there.
run-before : (k : CharClasses) (levels : ℕ) (edit : TextReplacement) (s : Spot (Unit {0})) (i : ℕ) → s.at < length edit.front → EndsBefore k levels edit s i → opened_at k levels s (start_before edit) ≤ length edit.front
unfolding run
run-before k levels edit s i starts looks =
    let z = start_before edit in
    let y = moved s.at z in
    let p = point_of s.start in
    let most = length edit.front - s.at in
    let first = look_first k levels y p in
    let again = look_again k levels y p in
    let b = bracket k levels y p in
    let all = end-shift s.at most (length edit.front) (first.asks ++ (again.asks ++ b.asks)) (omega arith) looks.opens in
    let behind = looks-second (ending most) first.asks (again.asks ++ b.asks) all in
    let gap_one : gap_of first.state.known ≤ most = omega (arith, (block-sees k levels s z peek y p most (omega arith)).ends (looks-first (ending most) first.asks (again.asks ++ b.asks) all)) in
    let gap_two : gap_of again.state.known ≤ most = omega (arith, (block-sees k levels s z peek y first.state most gap_one).ends (looks-first (ending most) again.asks b.asks behind)) in
    let three = (block-sees k levels s z (does (takes false itself)) y (entered markup_reading again.state) most gap_two).ends (looks-second (ending most) again.asks b.asks behind) in
    omega (arith, three, starts)

-- So does the token of its first note.
first-before : (k : CharClasses) (levels : ℕ) (edit : TextReplacement) (s : Spot (Unit {0})) (i : ℕ) (note : Note) → s.at < length edit.front → EndsBefore k levels edit s i → AllGo (first_of i (run_at k levels s (start_before edit)))
    → (let e = inner_end k levels i s (start_before edit) in
    (0 < i → note.start ≡ width (take (e.taken + gap_of e.state.known) (text_before edit))) → (i ≡ 0 → note.start ≡ width (take e.taken (text_before edit))) → note.start ≤ width edit.front)
first-before k levels edit s zero note starts looks g more none =
    let v = inner_end k levels 0 s (start_before edit) in
    subst (λ j. j ≤ width edit.front) (sym (none refl)) (short v.taken edit.front (edit.old ++ edit.rest) (omega (arith, run-before k levels edit s 0 starts looks)))
first-before k levels edit s (suc j) note starts looks g more none =
    let v = inner_end k levels (suc j) s (start_before edit) in
    subst (λ j. j ≤ width edit.front) (sym (more (omega arith)))
    (short (v.taken + gap_of v.state.known) edit.front (edit.old ++ edit.rest) (token-before k levels edit s (suc j) (omega arith) looks (takes-some k (run_at k levels s (start_before edit)) (is_block_run levels (moved s.at (start_before edit)) (point_of s.start)) (suc j) (omega arith) g)))

-- ---- the law

pub inner-entries-law : InnerEntriesLaw
inner-entries-law k levels edit s i n past t chosen name level g h known sum big =
    let d = inner-decision-law k levels edit s i n chosen name level g h in
    let b = d.begins in
    let e = d.ends in
    let f = inner_both k levels i n s (start_before edit) in
    let first = numbers-of k (text_before edit) b.earlier b.note b.later b.notes in
    let last = numbers-of k (text_before edit) e.earlier e.note e.later e.notes in
    let ends_at : 0 < i + n → e.note.start ≡ width (edit.front ++ (edit.old ++ take past edit.rest)) = λ more.
    d.trivia_end more ∙ ap width (take-past edit.front edit.old edit.rest past (f.taken + gap_of f.state.known) (ap (λ v. f.taken + gap_of v) known ∙ sum)) in
    record {
      begins = b;
      ends = e;
      start = d.token;
      start_first = d.token_first;
      number = d.number;
      number_end = d.number_end;
      end = ends_at;
      before = λ p. d.before (first.before (width edit.front) p);
      before_too = λ starts looks. first.before_too (width edit.front) (first-before k levels edit s i b.note starts looks g d.token d.token_first) (d.before_too looks);
      after = λ more q. d.after_trivia past t known sum (last.after (width (edit.front ++ edit.old)) (behind-end edit.front edit.old edit.rest past (ends_at more)) q);
      after_too = λ more looks. last.after_too (width (edit.front ++ edit.old)) (behind-end edit.front edit.old edit.rest past (ends_at more)) (d.after_trivia_too past t known sum more big looks);
    }

-- ---- the pieces that are read

-- A block's run begins as if nothing were known except that it is markup.
module _ (k : CharClasses) (levels : ℕ) (edit : TextReplacement) (s : Spot (Unit {0})) (chosen : Among s (blocks_of_text k (text_before edit))) (name : s.name ≡ block.Content) (level : max_depth - s.fewer ≡ suc levels) where
  abbrev w : Place
  w = start_after edit

  -- where a block begins
  pub begins-none : EndsBefore k levels edit s 0 → (run_at k levels s (start_before edit)).point.empties ≡ 0 → (run_at k levels s w).point.empties ≡ 0
  unfolding run
  begins-none looks clear = ap (λ (o : Outcome (Unit {0})). o.state.empties) (first-same k levels edit s 0 looks).opened ∙ clear

-- What a run gives to readings of its pieces.
pub rereads : (k : CharClasses) (edit : TextReplacement) (r : Run k (text_before edit)) → Rereads k edit r
rereads k edit top = record { start_known = refl; start_same = λ clear looks m go. refl; start_goes = λ clear looks m go. go }
rereads k edit (block_inner s levels chosen name level) =
    let y = moved s.at (start_after edit) in
    let t = point_of s.start in
    let empty = begins-none k levels edit s chosen name level in
    record {
      start_known = start-known k levels y t;
      start_same = λ clear looks m go. start-same k levels y t m (λ minds. empty looks clear) go;
      start_goes = λ clear looks m go. start-goes k levels y t m (λ minds. empty looks clear) go;
    }

pub read-law : ReadLaw
read-law k edit r i n m past t ts g h known sum encloses none looks behind =
    let again = rereads k edit r in
    let clear = none-before k (text_before edit) r (takes-of k edit r encloses) in
    ((λ reads. gives-to k edit r again i n past t ts g clear none looks m h known sum behind reads), (λ gives. reads-to k edit r again i n past t ts g clear none looks m gives))

pub inner-once-law : InnerOnceLaw
inner-once-law k levels edit s chosen name level i n m j past ts us g around none looks one two =
    let z = start_before edit in
    let w = start_after edit in
    let a = cut_at (block_run s levels chosen name level) i z in
    let x = (first_end i (run_at k levels s z)).value in
    let clear = no-errors k levels (text_before edit) s chosen name level (omega (arith, around.starts, around.ends)) in
    let own = block_run s levels chosen name level in
    let again = rereads k edit own in
    let g_now = first-now k edit own i looks g in
    let markup = markup-of k (run_at k levels s w) (is_block_run levels (moved s.at w) (point_of s.start)) in
    let go = goes-there k edit own again i m g clear none looks one.go in
    let go_too = goes-there k edit own again i j g clear none looks two.go in
    let u = then-known (run_at k levels s w) markup i m g_now go in
    let v = then-known (run_at k levels s w) markup i j g_now go_too in
    let b = alike k edit own again i m u.trivia g clear none looks go u.is in
    let d = alike k edit own again i j v.trivia g clear none looks go_too v.is in
    let same : m ≡ j = count-law k (run_at k levels s w) (is_block_run levels (moved s.at w) (point_of s.start)) i m j g_now go go_too (omega (arith, b.sum, d.sum, one.ends, two.ends, ap gap_of u.is, ap gap_of v.is)) in
    (same, one.nodes ∙ ap (λ c. given (read_alone (run_at k levels s w) x c (moved a w)) [] ++ pending (end_alone (run_at k levels s w) x c (moved a w)).state.known) same ∙ sym two.nodes)

-- ---- a candidate

-- As it stands, it passes the test of looks only if it takes back no errors.
well : (k : CharClasses) (levels : ℕ) (edit : TextReplacement) (root : Tree) (s : Spot (Unit {0})) (chosen : Among s (blocks_of_text k (text_before edit))) (name : s.name ≡ block.Content) (level : max_depth - s.fewer ≡ suc levels)
    (c : Candidate) (i n past : ℕ) (t : Trivia) → bare root ≡ bare (tree k (text_before edit)) → Among c (candidates k edit root)
    → c.is_block ≡ false → c.path ≡ path_of s.hole ++ 1 ∷ []
    → c.start ≡ width (take (cut_at (block_run s levels chosen name level) i (start_before edit)) (text_before edit)) → (0 < i ↔ 0 < c.from) → c.end ≡ width (edit.front ++ (edit.old ++ take past edit.rest)) → 0 < n
    → AllGo (first_of i (run_at k levels s (start_before edit))) → AllGo (then_of i n (run_at k levels s (start_before edit)))
    → (let e = inner_both k levels i n s (start_before edit) in e.state.known ≡ Some t → e.taken + t.gap ≡ (length edit.front + length edit.old) + past
    → EndsBefore k levels edit s i → BeginsPast k levels edit s i n past t
    → Around edit s × (0 < i → TakesNone i (run_at k levels s (start_before edit))))
well k levels edit root s chosen name level c i n past t same candidate pieces path start led end some g h known sum looks behind =
    let own = block_run s levels chosen name level in
    let p = run_at k levels s (start_before edit) in
    let none_new = record edit { new = edit.old } in
    let stays : PassesPieces k none_new own i n n past t t = record {
      first_go = g;
      old_go = h;
      new_go = h;
      before = record { before = looks.before; opens = looks.opens; before_run = looks.before_run };
      after = record { inside = behind.inside; behind = behind.behind };
      known = known;
      known_now = known;
      ends = sum;
      shifted = sum;
      agrees = agrees-itself own (is_over i n p) n (then_end i n p).value some;
    } in
    let b = begins-well-law k none_new root own c i n n past t t same candidate pieces path start led end stays in
    (record { starts = b.0.starts; ends = b.0.ends }, (λ l minds. absurd (both_ways (minds_at p (first_place i p) (first_end i p)) (b.1.starts l).1 minds)))
  where
    agrees-itself : {text : List ℕ} (r : Run k text) (over : Bool) (m : ℕ) (x : Bool × ℕ) → 0 < m → Agrees r over m x x
    agrees-itself r false m x l = (l, refl)
    agrees-itself top true m x l = tt
    agrees-itself (block_inner c levels a b d) true m x l = refl

pub inner-test-law : InnerTestLaw
inner-test-law k levels edit root s chosen name level c i n m past t ts same candidate pieces path start led end some g h known sum big =
    let own = block_run s levels chosen name level in
    let e = inner-entries-law k levels edit s i n past t chosen name level g h known sum big in
    let more : 0 < i + n = omega (arith, some) in
    let fine = well k levels edit root s chosen name level c i n past t same candidate pieces path start led end some g h known sum in
    let read = λ (a : EndsBefore k levels edit s i) (b : BeginsPast k levels edit s i n past t).
    (let f = fine a b in read-law k edit own i n m past t ts g h known sum f.0 f.1 a b) in
    record {
      entries = e;
      passes = λ first last reads.
          (let gives = (read (e.before first) (e.after more last)).0 reads in
          of_pieces own i n m past t gives.behind pieces (sym path) start led end gives.passes gives.are);
      front_too = λ gives. e.before_too (fine gives.passes.before gives.passes.after).0.starts gives.passes.before;
      rear_too = λ gives. e.after_too more gives.passes.after;
      reads_too = λ gives. (read gives.passes.before gives.passes.after).1 gives;
    }

-- ---- the entries that are read

pub inner-part-law : InnerPartLaw
inner-part-law k levels edit s chosen name level zero m some g none looks go = absurd (omega (arith, some))
inner-part-law k levels edit s chosen name level (suc j) m some g none looks go =
    let i = suc j in
    let z = start_before edit in
    let w = start_after edit in
    let p = run_at k levels s z in
    let q = run_at k levels s w in
    let own = block_run s levels chosen name level in
    let b = begun k edit own (rereads k edit own) j g none looks in
    let e = first_end i q in
    let taken = ap (λ (v : End (Bool × ℕ)). v.taken) b.same in
    let gap_was = ap (λ (v : End (Bool × ℕ)). gap_of v.state.known) b.same in
    let gap = gap_of e.state.known in
    let y = moved b.trivia.gap (first_place i q) in
    let log_of = λ (v : Bool × ℕ) (y : Place). logged (suc levels) y no_log ((run q.level peek y (start_point markup_reading)).asks ++ asks_of (made (turn_of q) m v y (fresh q.level y))) in
    let count : (opened_at k levels s w + e.taken) + gap ≡ cut_at (block_run s levels chosen name level) i z = omega (arith, b.opened, b.cut, taken, gap_was) in
    record {
      log_is = pieces-log-law k (text_before edit) own w i m b.trivia some b.go go b.known b.none ∙ ap (λ v. log_of v y) (ap (λ (v : End (Bool × ℕ)). v.value) b.same) ∙ ap (log_of (first_end i p).value) b.place;
      token = ap position (sym (moved-sum (opened_at k levels s w + e.taken) gap w) ∙ ap (λ n. moved n w) count);
    }

-- The law of a part for pieces of a block's run that follow no others.
pub first-part : (k : CharClasses) (levels : ℕ) (edit : TextReplacement) (s : Spot (Unit {0})) (chosen : Among s (blocks_of_text k (text_before edit))) (name : s.name ≡ block.Content) (level : max_depth - s.fewer ≡ suc levels)
    (m : ℕ) → Around edit s → EndsBefore k levels edit s 0 → AllGo (then_of 0 m (run_at k levels s (start_after edit)))
    → (let own = block_run s levels chosen name level in InnerPart k levels edit own (cut_at own 0 (start_before edit)) 0 m)
first-part k levels edit s chosen name level m around looks go =
    let z = start_before edit in
    let w = start_after edit in
    let q = run_at k levels s w in
    let a = cut_at (block_run s levels chosen name level) 0 z in
    let opened : opened_at k levels s w ≡ opened_at k levels s z = ap (λ (o : Outcome (Unit {0})). s.at + o.taken) (first-same k levels edit s 0 looks).opened in
    let b = (bracket k levels (moved s.at w) (point_of s.start)).taken in
    let x : Bool × ℕ = (true, 0) in
    let count : s.at + b ≡ a = omega (arith, opened) in
    let place : q.place ≡ moved a w = sym (moved-sum s.at b w) ∙ ap (λ n. moved n w) count in
    let clear = no-errors k levels (text_before edit) s chosen name level (omega (arith, around.starts, around.ends)) in
    let same : then_of 0 m q ≡ read_alone q x m q.place = start-same k levels (moved s.at w) (point_of s.start) m (λ minds. begins-none k levels edit s chosen name level looks clear) go in
    let lead = (inner_lead k levels (moved s.at w) (point_of s.start)).asks in
    let asks = λ (v : Place). (first_look (level_in k levels) v).asks ++ asks_of (read_alone q x m v) in
    let own : lead ++ shift 0 (asks_of (then_of 0 m q)) ≡ asks q.place =
    ap (λ us. lead ++ us) (shift-zero (asks_of (then_of 0 m q))) ∙ ap (λ os. lead ++ asks_of os) same ∙ ap (λ us. us ++ asks_of (read_alone q x m q.place)) (start-asks k levels (moved s.at w) (point_of s.start)) in
    record {
      log_is = ap (logged (suc levels) q.place no_log) own ∙ ap (λ v. logged (suc levels) v no_log (asks v)) place;
      token = ap (λ g. position (moved g (moved (opened_at k levels s w + 0) w))) (bracket-gap k levels (moved s.at w) (point_of s.start)) ∙ ap (λ j. position (moved j w)) (omega (arith, count));
    }

pub inner-units-law : InnerUnitsLaw
inner-units-law k levels edit s chosen name level i n m past t u some h none big big_new e =
    let never : (j a : ℕ) → i + j ≡ 0 → a ≡ 0 = λ j a l. absurd (omega (arith, some, l)) in
    let v = run-splice-law k edit (block_run s levels chosen name level) i n m past t u h (never n t.gap) (never m u.gap) big big_new in
    let part = inner-part-law k levels edit s chosen name level i m some h.first_go none h.before h.new_go in
    v ∙ (λ a. spliced (sym e.number a) (sym e.number_end a) (entries_from (part.token a) (part.log_is a).notes) (units_of (log k (text_before edit))))

-- ---- the entries at its ends

-- The token after pieces whose looks end before a stretch begins there, and so does the run.
cut-within : (k : CharClasses) (edit : TextReplacement) (i : ℕ) → Before k edit (root_run k (text_before edit)) i → cut_after i (first_end i (text_run k (start_before edit))) ≤ length edit.front
cut-within k edit zero looks = omega arith
cut-within k edit (suc i) looks = text-seen k (start_before edit) (suc i) (length edit.front) (looks (omega arith))

pub run-entries-law : RunEntriesLaw
run-entries-law k edit i n past t g h known sum big =
    let text = text_before edit in
    let z = start_before edit in
    let r = text_run k z in
    let one = text-note k text i g in
    let two = text-both k text i n g h in
    let b = one.told in
    let e = two.told in
    let joined : first_end (i + n) (text_run k z) ≡ both_end k i n edit = made-add (piece_at k) (looks_in r) (each-ends r) i n (true, 0) z (lead k z).state in
    let all = go-add (piece_at k) (looks_in r) (each-ends r) i n (true, 0) z (lead k z).state g h in
    let first = numbers-of k text b.earlier b.note b.later b.notes in
    let last = numbers-of k text e.earlier e.note e.later e.notes in
    let f = both_end k i n edit in
    let from = text-count k text i (first_end i (text_run k z)) one in
    let token = text-token k text i g in
    let ends_at : 0 < i + n → e.note.start ≡ width (edit.front ++ (edit.old ++ take past edit.rest)) = λ more. trivia-end k edit i n past t known sum two more ∙ ap width (take-past edit.front edit.old edit.rest past (f.taken + t.gap) sum) in
    record {
      begins = b;
      ends = e;
      from = from;
      to = text-count k text (i + n) f two ∙ count-made r i n ∙ ap (λ j. j + notes_in (asks_of (then_of i n (text_run k z)))) (sym from);
      number = number-law k text i g b;
      number_end = subst (λ v. (p : PieceNote (log k text) max_depth text v) → length (of_level max_depth p.earlier) ≡ i + n) joined (number-law k text (i + n) all) e;
      start = token;
      end = ends_at;
      before = λ p some. reaches k text i (first_end i (text_run k z)) one edit.front (edit.old ++ edit.rest) refl some (first.before (width edit.front) p);
      before_too = λ looks. first.before_too (width edit.front) (subst (λ j. j ≤ width edit.front) (sym token) (short (cut_after i (first_end i (text_run k z))) edit.front (edit.old ++ edit.rest) (cut-within k edit i looks))) (reaches-too k text i (first_end i (text_run k z)) one edit.front (edit.old ++ edit.rest) refl looks);
      after = λ more q. begins-past k edit i n past t known sum two (last.after (width (edit.front ++ edit.old)) (behind-end edit.front edit.old edit.rest past (ends_at more)) q);
      after_too = λ more looks. last.after_too (width (edit.front ++ edit.old)) (behind-end edit.front edit.old edit.rest past (ends_at more)) (begins-past-too k edit i n past t known sum two more big looks);
    }

-- Different numbers of pieces don't end before tokens at one byte.
pub cut-once-law : CutOnceLaw
cut-once-law k text i j g h e = neither i j (λ l. (let c = cuts-law k text i j l h in omega (arith, c, e))) (λ l. (let c = cuts-law k text j i l g in omega (arith, c, e)))

-- ---- a candidate of the run

pub run-gives-law : RunGivesLaw
run-gives-law k edit root c ts same among pieces at_root = (to, (λ g. of_pieces top g.i g.n g.m g.past g.t g.gives.behind pieces (sym at_root) g.start g.led g.end g.gives.passes g.gives.are))
  where
    to : Gives k edit c ts → RunGives k edit c ts
    to (of_block s past is a b h e) = absurd (let d : true ≡ false = sym is ∙ pieces in cc)
    to (of_pieces (inner s levels a name left) i n m past t u is path start led end h e) = absurd (tail-none (path_of s.hole) 1 (path ∙ at_root))
    to (of_pieces top i n m past t u is path start led end h e) =
        let well = (begins-well-law k edit root top c i n m past t u same among pieces at_root start led end h).1 in
        record {
          i = i;
          n = n;
          m = m;
          past = past;
          t = t;
          start = start;
          led = led;
          end = end;
          none = λ some minded. absurd (let d : true ≡ false = sym minded ∙ (well.starts some).1 in cc);
          gives = record { behind = u; passes = h; are = e };
        }

-- ---- the units

pub run-part-law : RunPartLaw
run-part-law k edit i n m past t u h over over_new big big_new e =
    let text_w = start_after edit in
    let own = root_run k (text_before edit) in
    let part = entries_from (token_start text_w (end_note own i text_w)) (pieces_log own i m text_w).notes in
    let units = units_of (log k (text_before edit)) in
    let count = notes_in (asks_of (then_of i n (text_run k (start_before edit)))) in
    run-splice-law k edit own i n m past t u h over over_new big big_new ∙ ap (λ a. spliced a (a + count) part units) (sym e.from) ∙ ap (λ b. spliced (length e.begins.earlier) b part units) (sym e.to)
