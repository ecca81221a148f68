-- What the entries say of a run, and what is found of a candidate that is pieces of it: of a text's run and of a content block's.
use Rattle.typst_edits.proofs.Cited.{◌≡◌, ℕ, suc, ◌+◌, ◌-◌, ◌<◌, ◌≤◌, List, [], ◌∷◌, ◌++◌, length, take, ap, sym, ◌∙◌, arith, ◌↔◌, zero, ◌^◌, ◌==◌, ne_eqb, Bool, true, false, Some, refl, subst, if◌then◌else◌, drop, length-append, append_assoc, pos_of_ne-zero, take-append-le, append_cancel_right, CharClasses, width, position, Note, State, opening_of, max_depth, start_of, log, tree, entries_in, front_in, rear_in, entries_alone, Among, AllBeginIn, path_of, blocks_of_text, listed, number_of, number_in, InnerNumbers, cut_of, RunNumbers, cut_in, notes_in, token_start, entries_from, Spot, unit_at, Place, moved, Tree, bare, no_log, logged, Trivia, gap_of, point_of, Entry, Candidate, units_of, entries_by, spliced, candidates, IsPieces, Run, top, cut_at, is_over, nodes_now, Agrees, Before, After, PassesPieces, Gives, of_block, of_pieces, first_place, text_run, asked_past, cut_after, TakesNone, fresh, root_run, end_note, pieces_log, notes_by, BeginsAt, IsLast, reading_on, nodes_by, PassesRead, made, AllGo, asks_of, start, lead, Sequence, turn_of, first_of, first_end, then_of, then_end, take-append_seam, start_at, closing_of, first_look, bracket, inner_run, run_at, EndsBefore, inner_end, left_past, block_run, Around, level_in, InnerPart, true_from_ne_false, is_text_run, is_block_run, PassesJoint, RunTestLaw, FoundInner, InnerRunTestLaw, GivesPieces, RunEntries, read_alone, InnerEntries, TextReplacement, text_before, text_after, start_before, start_after, replacing, EndsBare}
use Rattle.typst_edits.specs.Frame.{inner}
use Rattle.typst_edits.proofs.BlockPlaces.{hole-same, split-same}
use Rattle.typst_edits.proofs.Bytes.{decision-law}
use Rattle.typst_edits.proofs.EntryNumbers.{some-number}
use Rattle.typst_edits.proofs.Walk.{spot-place}
use Rattle.typst_candidates.proofs.Walks.{rear-most}
use Rattle.typst_edits.specs.RunTest.LooksFrom.{nothing, closing as from_closing}
use Rattle.typst_edits.proofs.Content.{tail-none}
use Rattle.typst_edits.proofs.AnyRun.{entries-listed, AreWithin, found-by, room-by, ReadsFrom, Entered, passes-too, Read, UnitsBy, given-by, begins-now, read_from, found, looks_by, Span, Found, one-span, none-last, read-by}
use Rattle.typst_edits.proofs.Children.{top-known}
use Rattle.typst_edits.proofs.Cuts.{cuts-law, ends-within, inner-cuts-law, inner-within}
use Rattle.typst_edits.proofs.EmptyRuns.{empty-text-law}
use Rattle.typst_edits.proofs.Outcomes.{shift-zero}
use Rattle.typst_edits.proofs.PiecesLog.{pieces-log-law}
use Rattle.typst_edits.proofs.Splice.{count-made}
use Rattle.typst_edits.proofs.PiecesTest.{run-entries-law, run-part-law, rereads, first-part, inner-entries-law, inner-part-law}
use Rattle.typst_edits.proofs.Joint.{first-now}
use Rattle.typst_edits.proofs.ReadAlone.{begun, alike, goes-there}
use Rattle.typst_edits.proofs.Heads.{lead-empties}
use Rattle.typst_edits.proofs.Resumed.{count-law, alone-further, known-after, markup-of, then-known}
use Rattle.typst_edits.proofs.Leading.{no-errors}
use Rattle.typst_edits.proofs.RunCandidates.{begins-well-law}
use Rattle.typst_edits.proofs.RunPieces.{behind-zero, cut-is, cut-some, joins-of, block-taken}
use Rattle.typst_edits.proofs.Widths.{width-append, take-same, take-longer}
use Rattle.typst_edits.proofs.BlockTest.{Key, Numbers, numbers, byte-at, alone-same, entries-same, says-same}
use Rattle.typst_edits.proofs.EmptyBlocks.{end-still, empty-block-law}
use Rattle.typst_edits.proofs.RunSplice.{around-splice-law, run-splice-law}
use Rattle.typst_grammar.specs.declared.part.RunKind.TheVariants as of
use Rattle.typst_language.specs.declared.calls.Block.TheVariants as block
use Rattle.typst_edits.proofs.RunNumbers.{run-numbers-law, inner-numbers-law}
use Rattle.typst_edits.proofs.RootRuns.{root-pieces-of-law}
use Rattle.typst_edits.proofs.InnerRuns.{inner-pieces-of-law}

-- ---- two blocks of a text at the same path begin at the same byte; and two that begin there are one

-- where the bytes of a block's node begin
pub same-byte : (k : CharClasses) (text : List ℕ) (s r : Spot (Unit {0})) → Among s (blocks_of_text k text) → Among r (blocks_of_text k text) → 0 < (unit_at s (start_of text)).taken → 0 < (unit_at r (start_of text)).taken
    → path_of s.hole ++ 1 ∷ [] ≡ path_of r.hole ++ 1 ∷ [] → width (take s.at text) ≡ width (take r.at text)
same-byte k text s r there too some some_too path =
    let p = spot-place k text s there in
    let q = spot-place k text r too in
    let same = hole-same s.hole r.hole s.node r.node (append_cancel_right (path_of s.hole) (path_of r.hole) (1 ∷ []) path) (sym p.nodes ∙ q.nodes) in
    sym (p.left_taken some) ∙ ap length same.0 ∙ q.left_taken some_too

-- how a content block is read, and how many notes come up to its own
pub record Home : Type 0 where
  pub levels : ℕ
  pub at : ℕ
  pub start : State
  pub number : ℕ

abbrev pub home_of : ℕ → Spot (Unit {0}) → Home
home_of levels s = record { levels = levels; at = s.at; start = s.start; number = notes_in s.before }

-- Two blocks that begin at one byte are read the same.
pub same-home : (k : CharClasses) (text : List ℕ) (s r : Spot (Unit {0})) (levels more : ℕ) → Among s (blocks_of_text k text) → Among r (blocks_of_text k text) → max_depth - s.fewer ≡ suc levels → max_depth - r.fewer ≡ suc more
    → s.at ≤ length text → r.at ≤ length text → InnerNumbers k levels text s → InnerNumbers k more text r → width (take s.at text) ≡ width (take r.at text) → home_of levels s ≡ home_of more r
same-home k text s r levels more there too level level_too room room_too v w byte =
    let no_numbers : List ℕ = [] in
    let none : length no_numbers ≡ 0 = omega arith in
    let d = decision-law k (replacing [] [] [] text) s ((unit_at s (start_of text)).taken + s.at) there (omega (arith, none)) in
    let f = decision-law k (replacing [] [] [] text) r ((unit_at r (start_of text)).taken + r.at) too (omega (arith, none)) in
    let opens : v.opens ≡ w.opens = some-number v.opens w.opens (sym v.opening ∙ ap (λ b. opening_of b 0 0 (entries_in k text)) byte ∙ w.opening) in
    let number : notes_in s.before ≡ notes_in r.before = omega (arith, opens, v.before, w.before) in
    let first = d.number in
    let second = f.number in
    let note : d.opens ≡ f.opens = (split-same d.earlier (d.inner ++ d.closes ∷ d.later) f.earlier (f.inner ++ f.closes ∷ f.later) d.opens f.opens (omega (arith, number, first, second)) (ap listed (sym d.notes ∙ f.notes))).1 in
    let left : suc levels ≡ suc more = sym level ∙ sym d.levels ∙ ap (λ (n : Note). n.levels) note ∙ f.levels ∙ level_too in
    let levels_is : levels ≡ more = omega (arith, left) in
    let at_is : s.at ≡ r.at = take-same s.at r.at text room room_too byte in
    let start_is : s.start ≡ r.start = sym d.state ∙ ap (λ (n : Note). n.state) note ∙ f.state in
    (λ i. record { levels = levels_is i; at = at_is i; start = start_is i; number = number i })

-- ---- entries and counts

-- ---- the reading by itself

module _ (k : CharClasses) (edit : TextReplacement) where
  abbrev own : Run k (text_before edit)
  own = root_run k (text_before edit)

  abbrev z : Place
  z = start_before edit

  abbrev w : Place
  w = start_after edit

  abbrev was : Sequence
  was = text_run k z

  abbrev now : Sequence
  now = text_run k w

  -- what is logged of them, from the entry on where they begin
  abbrev log_at : ℕ → Bool × ℕ → Place → Place → List Note
  log_at m x y a = listed (logged max_depth a no_log ((lead k a).asks ++ asks_of (made (turn_of now) m x y (fresh now.level y)))).notes

  pub part-is : (i m : ℕ) → AllGo (first_of i was) → (0 < i → TakesNone i was) → Before k edit own i → AllGo (then_of i m now)
      → (let y = moved (cut_at own i z) w in entries_from (token_start w (end_note own i w)) (pieces_log own i m w).notes ≡ entries_by (position y) (log_at m (first_end i was).value y y))
  part-is zero m g alone looks go =
      entries-listed (token_start w (end_note own 0 w)) (pieces_log own 0 m w).notes
      ∙ ap (λ ls. entries_by (position w) (listed (logged max_depth w no_log ((lead k w).asks ++ ls)).notes)) (shift-zero (asks_of (then_of 0 m (text_run k w))))
  part-is (suc j) m g alone looks go =
      let i = suc j in
      let b = begun k edit own (rereads k edit own) j g (alone (omega arith)) looks in
      let x = (first_end i now).value in
      let cut = moved (cut_at own i z) w in
      entries-listed (token_start w (end_note own i w)) (pieces_log own i m w).notes
      ∙ ap (λ n. entries_by (position (moved n (first_place i now))) (listed (pieces_log own i m w).notes)) (ap gap_of b.known)
      ∙ (λ v. entries_by (position (b.place v)) (listed (pieces-log-law k (text_before edit) own w i m b.trivia (omega arith) b.go go b.known b.none v).notes))
      ∙ (λ v. entries_by (position cut) (log_at m (b.same v).value (b.place v) (b.place v)))

-- ---- what the entries say

module _ (k : CharClasses) (edit : TextReplacement) (r : RunNumbers k (text_before edit)) (big : width (text_before edit) < 2 ^ 64 - 1) where
  abbrev text : List ℕ
  text = text_before edit

  abbrev top_run : Run k (text_before edit)
  top_run = root_run k (text_before edit)

  abbrev begin : Place
  begin = start_before edit

  abbrev whole : Sequence
  whole = text_run k begin

  abbrev es : List Entry
  es = entries_in k text

  cut-behind : (i : ℕ) → cut_at top_run i begin ≡ cut_after i (first_end i (text_run k begin))
  cut-behind zero = refl
  cut-behind (suc i) = let e = first_end (suc i) (text_run k begin) in cut-is (suc i == 0) (e.taken + gap_of e.state.known) (ne_eqb (suc i) 0 (omega arith))

  pub byte-is : (i : ℕ) → width (take (cut_at top_run i begin) text) ≡ cut_of k text i
  byte-is i = ap (λ j. width (take j text)) (cut-behind i)

  pub within-text : AreWithin k edit top_run of.Text max_depth
  within-text m l = let most = ends-within k text m in omega (arith, most)

  module _ (c : Candidate) (i n past : ℕ) (t : Trivia) (p : IsPieces k edit (root_run k (text_before edit)) c i n past t) where
    pub notes : RunEntries k edit i n past t
    notes = run-entries-law k edit i n past t p.go p.go_on p.known (behind-zero ((first_end i (text_run k begin)).taken + (then_end i n (text_run k begin)).taken) t.gap _ p.ends) (omega (arith, width-append edit.front (edit.old ++ edit.rest), width-append edit.old edit.rest, width-append edit.front edit.old, big))

    pub to-is : length notes.ends.earlier ≡ number_of k text (i + n)
    to-is =
        notes.to ∙ ap (λ j. j + notes_in (asks_of (then_of i n (text_run k begin)))) notes.from ∙ sym (count-made whole i n)

    pub before-is : number_of k text i < front_in k edit ↔ Before k edit top_run i
    before-is = ((λ l. notes.before (subst (λ j. j < front_in k edit) (sym notes.from) l)), (λ h. subst (λ j. j < front_in k edit) notes.from (notes.before_too h)))

    pub behind-is : 0 < n → rear_in k edit ≤ number_of k text (i + n) ↔ After k edit top_run i n past t
    behind-is some = (
      (λ l. notes.after (omega (arith, some)) (subst (λ j. rear_in k edit ≤ j) (sym to-is) l)),
      (λ h. subst (λ j. rear_in k edit ≤ j) to-is (notes.after_too (omega (arith, some)) h)),
    )

    -- A run without an expression has nothing to look at after it.
    pub none-behind : n ≡ 0 → rear_in k edit ≤ length es ↔ After k edit top_run i n past t
    none-behind e =
        let alone = p.empty e in
        let known : whole.point.known ≡ Some t = subst (λ j. (then_end j 0 whole).state.known ≡ Some t) alone.0 (subst (λ j. (then_end i j whole).state.known ≡ Some t) e p.known) in
        let looks = (empty-text-law k edit past t alone.1 known).always (room-by k edit top_run of.Text max_depth within-text c i n past t (found-by k edit top_run of.Text max_depth c i n past t p) (omega arith)) in
        let most = rear-most (width (edit.front ++ edit.old)) 0 0 es (units_of (log k text)).back in (
          (λ l. subst (λ j. AllBeginIn past edit.rest (asked_past k i j t begin)) (sym e) (subst (λ j. AllBeginIn past edit.rest (asked_past k j 0 t begin)) (sym alone.0) looks)),
          (λ h. omega (arith, most)),
        )

    pub reads-from : Before k edit top_run i → ReadsFrom k edit top_run of.Text max_depth i
    reads-from looks =
        let again = rereads k edit top_run in
        let clear = lead-empties k (start_before edit) in
        record {
          go = λ m h. goes-there k edit top_run again i m p.go clear p.none looks h;
          known = λ m go. then-known (text_run k (start_after edit)) (markup-of k (text_run k (start_after edit)) (is_text_run (start_after edit))) i m (first-now k edit top_run i looks p.go) go;
          alike = λ m u go is. (let a = alike k edit top_run again i m u p.go clear p.none looks go is in record { go = a.go; sum = a.sum; value = a.value; nodes = a.nodes });
        }

    pub exchanged-units : width (text_after edit) < 2 ^ 64 - 1 → (m : ℕ) (u : Trivia) → PassesJoint k edit top_run i n m past t u → (i + n ≡ 0 → EndsBare top_run i n t begin) → (i + m ≡ 0 → EndsBare top_run i n u begin)
        → units_of (log k (text_after edit)) ≡ spliced (number_of k text i) (number_of k text (i + n)) (entries_by c.start (notes_by k (read_from k edit top_run of.Text max_depth i) m)) (units_of (log k text))
    exchanged-units big_new m u joint over over_new =
        let e = notes in
        let there = read_from k edit top_run of.Text max_depth i in
        let part = part-is k edit i m p.go p.none joint.before joint.new_go ∙ ap (λ a. entries_by a (notes_by k there m)) (begins-now k edit top_run of.Text max_depth c i n past t p) in
        run-part-law k edit i n m past t u joint over over_new big big_new e
        ∙ (λ a. spliced (e.from a) (to-is a) (part a) (units_of (log k text)))

  unfoldable pub entered : Entered k edit top_run of.Text max_depth 0
  entered = record {
    number = number_of k text;
    count = r.count;
    most = r.most;
    over = r.over;
    begins = λ i l. subst (λ b. BeginsAt es 0 b (number_of k text i)) (sym (byte-is i)) (r.begins i l);
    goes_on = λ i j some l few. subst (λ b. BeginsAt es (number_of k text i) b (number_of k text j)) (sym (byte-is j)) (r.goes_on i j l few);
    rises = r.rises;
    last = r.last;
    not_last = r.not_last;
    says = r.says;
    cuts = λ i j l go. (let less = cuts-law k text i j l go in let one = byte-is i in let two = byte-is j in omega (arith, less, one, two));
    known = λ i go. top-known k i begin go;
    meets = λ m x y h. tt;
    met = λ m x y h block. absurd (let no : of.Text ≡ of.Block = block in cc);
    alone = length es;
    alone_from = λ to. nothing (length es) r.last refl (omega arith);
    further = λ i m j l go. (let more = alone-further k (text_run k (start_after edit)) (is_text_run (start_after edit)) m j (first_end i whole).value (moved (cut_at top_run i begin) (start_after edit)) l go in omega (arith, more));
    within = within-text;
    counts = count-law k whole (is_text_run begin);
    before = before-is;
    behind = behind-is;
    alone_behind = none-behind;
    reads = reads-from;
    exchanged = λ big_new c i n m past t u p joint some more. exchanged-units c i n past t p big_new m u joint (λ none. absurd (omega (arith, none, some))) (λ none. absurd (omega (arith, none, more)));
  }

  -- ---- a candidate

  module _ (root : Tree) (c : Candidate) (same : bare root ≡ bare (tree k (text_before edit))) (among : Among c (candidates k edit root)) (no_block : c.is_block ≡ false) (at_root : c.path ≡ [])
      (i n past : ℕ) (t : Trivia) (p : IsPieces k edit (root_run k (text_before edit)) c i n past t) where
    abbrev was_at : Place
    was_at = start_before edit

    -- However it passes, its pieces are these.
    pub own-pieces : (ts : List Tree) → Gives k edit c ts → ((m : ℕ) × (u : Trivia) × PassesPieces k edit top_run i n m past t u × (ts ≡ nodes_now top_run i m u (start_after edit)))
    own-pieces ts (of_block q far whole too at passes made) = absurd (let no = sym no_block ∙ whole in cc)
    own-pieces ts (of_pieces (inner q levels a name left) j d m far b u plain at start led end h made) = absurd (tail-none (path_of q.hole) 1 (at ∙ at_root))
    own-pieces ts (of_pieces top j d m far b u plain at start led end h made) =
        passes-too k edit top_run of.Text max_depth 0 entered c i n past t (found-by k edit top_run of.Text max_depth c i n past t p) j d far b
        (record { go = h.first_go; go_on = h.old_go; known = h.known; ends = h.ends; start = start; end = end }) (omega arith) m u ts h made

    units-are : width (text_after edit) < 2 ^ 64 - 1 → (m : ℕ) → Read k edit top_run of.Text max_depth 0 entered c i n past t p m → UnitsBy k edit top_run of.Text max_depth 0 entered c i n past t p m
    unfolding entered
    units-are big_new m h =
        let g = given-by k edit top_run of.Text max_depth 0 entered c i n past t p m h in
        let u = g.behind in
        let well = (begins-well-law k edit root top c i n m past t u same among no_block at_root p.start p.led p.end g.passes).1 in
        let joint = joins-of k edit top i n m past t u tt g.passes well.goes_on in
        let over : n ≡ 0 → is_over i n whole ≡ true = λ none. (let alone = p.empty none in subst (λ j. is_over i j whole ≡ true) (sym none) (subst (λ j. is_over j 0 whole ≡ true) (sym alone.0) alone.1)) in
        exchanged-units c i n past t p big_new m u joint (λ none. over (omega (arith, none))) (λ none. stops (omega (arith, none)) _ g.passes.agrees)
      where
        stops : m ≡ 0 → (y : Bool × ℕ) → Agrees top_run (is_over i n whole) m (then_end i n (text_run k was_at)).value y → is_over i n whole ≡ true
        stops z y h = true_from_ne_false (is_over i n whole) (λ e. (let more = (subst (λ b. Agrees top_run b m (then_end i n (text_run k was_at)).value y) e h).0 in omega (arith, z, more)))

-- ---- the law

pub run-test-law : RunTestLaw
run-test-law k edit root c same among no_block at_root big big_new =
    let text = text_before edit in
    let f = root-pieces-of-law k edit root c same among no_block at_root in
    let r = run-numbers-law k text in
    found k edit (root_run k text) of.Text max_depth 0 (entered k edit r big) c f.i f.n f.past f.t f.is
    (own-pieces k edit r big root c same among no_block at_root f.i f.n f.past f.t f.is) no_block (sym at_root)
    (λ m h some. units-are k edit r big root c same among no_block at_root f.i f.n f.past f.t f.is big_new m h)

-- ---- a candidate's pieces, by their block

abbrev run_by : CharClasses → Home → Place → Sequence
run_by k h inner_z = inner_run k h.levels (moved h.at inner_z) (point_of h.start)

abbrev opened_by_home : CharClasses → Home → Place → ℕ
opened_by_home k h inner_z = h.at + (bracket k h.levels (moved h.at inner_z) (point_of h.start)).taken

-- where its piece after the first i begins
abbrev cut_by : CharClasses → Home → ℕ → Place → ℕ
cut_by k h i inner_z = let e = first_end i (run_by k h inner_z) in opened_by_home k h inner_z + (if i == 0 then 0 else e.taken + gap_of e.state.known)

-- the number of the entry where i pieces end
abbrev number_by : CharClasses → Home → ℕ → Place → ℕ
number_by k h i inner_z = h.number + notes_in (asks_of (first_of i (run_by k h inner_z)))

abbrev FoundBy : CharClasses → TextReplacement → Candidate → Home → ℕ → ℕ → ℕ → Trivia → Type 0
FoundBy k edit c h i n past t = let inner_z = start_before edit in Found edit c (run_by k h inner_z) (opened_by_home k h inner_z) i n past t

-- A given number of pieces pass by themselves, and these are their nodes.
abbrev Passing : CharClasses → TextReplacement → Candidate → Home → ℕ → ℕ → ℕ → List Tree → Type 0
Passing k edit c h closes i n ts =
    let inner_z = start_before edit in
    let p = reading_on of.Block (suc h.levels) (first_end i (run_by k h (start_before edit))).value (moved (cut_by k h i (start_before edit)) (start_after edit)) in
    (m : ℕ) × PassesRead k edit c p (number_by k h i inner_z) (number_by k h (i + n) inner_z) (looks_by n closes (number_by k h (i + n) inner_z)) (first_end (i + n) (run_by k h inner_z)).value m × (ts ≡ nodes_by k p m)

-- Pieces of one of two blocks that are read the same are pieces of the other.
pub pieces-too : (k : CharClasses) (levels more : ℕ) (edit : TextReplacement) (s r : Spot (Unit {0})) (there : Among s (blocks_of_text k (text_before edit))) (name : s.name ≡ block.Content) (level : max_depth - s.fewer ≡ suc levels)
    (too : Among r (blocks_of_text k (text_before edit))) (name_too : r.name ≡ block.Content) (level_too : max_depth - r.fewer ≡ suc more) (c : Candidate) (i n past : ℕ) (t : Trivia) → home_of levels s ≡ home_of more r
    → IsPieces k edit (block_run s levels there name level) c i n past t → IsPieces k edit (block_run r more too name_too level_too) c i n past t
pieces-too k levels more edit s r there name level too name_too level_too c i n past t same is =
    let inner_z = start_before edit in
    let found : FoundBy k edit c (home_of levels s) i n past t = record { go = is.go; go_on = is.go_on; known = is.known; ends = is.ends; start = is.start; end = is.end } in
    let f = subst (λ (h : Home). FoundBy k edit c h i n past t) same found in
    record {
      go = f.go;
      go_on = f.go_on;
      known = f.known;
      ends = f.ends;
      start = f.start;
      led = is.led;
      end = f.end;
      none = subst (λ (h : Home). 0 < i → TakesNone i (run_by k h inner_z)) same is.none;
      empty = subst (λ (h : Home). n ≡ 0 → (i ≡ 0) × (is_over 0 0 (run_by k h inner_z) ≡ true)) same is.empty;
      early = subst (λ (h : Home). cut_by k h i inner_z ≤ length edit.front) same is.early;
    }

-- ---- the entries of a block's run

module _ (k : CharClasses) (levels : ℕ) (edit : TextReplacement) (s : Spot (Unit {0})) (there : Among s (blocks_of_text k (text_before edit))) (name : s.name ≡ block.Content) (level : max_depth - s.fewer ≡ suc levels)
    (around : Around edit s) (v : InnerNumbers k levels (text_before edit) s) (big : width (text_before edit) < 2 ^ 64 - 1) where
  abbrev inner_text : List ℕ
  inner_text = text_before edit

  abbrev here : Run k (text_before edit)
  here = block_run s levels there name level

  abbrev inner_z : Place
  inner_z = start_before edit

  abbrev inner_w : Place
  inner_w = start_after edit

  abbrev q : Sequence
  q = run_at k levels s inner_z

  abbrev inner_es : List Entry
  inner_es = entries_in k inner_text

  inner-cut-behind : (i : ℕ) → cut_at here i inner_z ≡ cut_after i (inner_end k levels i s inner_z)
  inner-cut-behind zero = omega arith
  inner-cut-behind (suc i) =
      omega (arith, cut-some here (suc i) inner_z (omega arith))

  pub inner-byte-is : (i : ℕ) → width (take (cut_at here i inner_z) inner_text) ≡ cut_in k levels inner_text s i
  inner-byte-is i = ap (λ j. width (take j inner_text)) (inner-cut-behind i)

  number-sum : (i n : ℕ) → number_in k levels inner_text s (i + n) ≡ number_in k levels inner_text s i + notes_in (asks_of (then_of i n q))
  number-sum i n = omega (arith, count-made q i n)

  -- the whole block
  abbrev whole_block : Candidate
  whole_block = record { is_block = true; path = []; from = 0; to = 0; start = width (take s.at inner_text); end = width (take (s.at + (unit_at s inner_z).taken) inner_text) }

  block-numbers : Numbers k edit whole_block s
  block-numbers =
      let place = spot-place k inner_text s there in
      let one = length-append edit.front (edit.old ++ edit.rest) in
      let before = take-longer s.at (length edit.front) inner_text around.starts (omega (arith, one)) in
      let both : take (length (edit.front ++ edit.old)) inner_text ≡ edit.front ++ edit.old = ap (take (length (edit.front ++ edit.old))) (sym (append_assoc edit.front edit.old edit.rest)) ∙ take-append_seam (edit.front ++ edit.old) edit.rest in
      let behind = take-longer (length (edit.front ++ edit.old)) (s.at + (unit_at s inner_z).taken) inner_text (omega (arith, around.ends, length-append edit.front edit.old)) (omega (arith, place.room, around.starts, one)) in
      numbers k edit whole_block s big there place (record { start = refl; end = refl }) (subst (λ xs. width (take s.at inner_text) < width xs) (take-append_seam edit.front (edit.old ++ edit.rest)) before)
      (subst (λ xs. width xs < width (take (s.at + (unit_at s inner_z).taken) inner_text)) both behind)

  -- the entry where the block ends
  record Closing : Type 0 where
    last : v.closes ≡ suc (v.opens + notes_in (unit_at s inner_z).asks)
    far : ℕ
    ends : (unit_at s inner_z).taken + s.at ≡ (length edit.front + length edit.old) + far
    late : rear_in k edit ≤ v.closes ↔ AllBeginIn far edit.rest s.after

  closing : Closing
  closing =
      let n = block-numbers in
      let opens : n.from ≡ v.opens = some-number n.from v.opens (sym n.opens ∙ v.opening) in
      let to : n.to ≡ v.closes = some-number n.to v.closes (sym n.says.closes ∙ ap (λ j. closing_of 0 (suc j) (drop (suc j) inner_es)) opens ∙ v.says_block.closes) in
      record { last = omega (arith, n.last, opens, to); far = n.past; ends = n.ends; late = subst (λ j. rear_in k edit ≤ j ↔ AllBeginIn n.past edit.rest s.after) to n.late }

  -- ---- some pieces of it

  pub inner-within-text : AreWithin k edit here of.Block (suc levels)
  inner-within-text m l = let most = inner-within k levels inner_text s m l in omega (arith, most)

  module _ (c : Candidate) (i n past : ℕ) (t : Trivia) (is : IsPieces k edit (block_run s levels there name level) c i n past t) where
    pub entries : InnerEntries k levels edit s i n past t
    entries = inner-entries-law k levels edit s i n past t there name level is.go is.go_on is.known is.ends (omega (arith, width-append edit.front (edit.old ++ edit.rest), width-append edit.old edit.rest, width-append edit.front edit.old, big))

    pub entry-end : length entries.ends.earlier ≡ number_in k levels inner_text s (i + n)
    entry-end = let sum = number-sum i n in let end = entries.number_end in omega (arith, sum, end)

    pub inner-before-is : number_in k levels inner_text s i < front_in k edit ↔ Before k edit here i
    inner-before-is =
        let e = entries in
        ((λ l. e.before (omega (arith, l, e.number))), (λ h. (let l = e.before_too around.starts h in omega (arith, l, e.number))))

    pub inner-behind-is : 0 < n → rear_in k edit ≤ number_in k levels inner_text s (i + n) ↔ After k edit here i n past t
    inner-behind-is some =
        let e = entries in
        let end = entry-end in
        let more : 0 < i + n = omega (arith, some) in
        ((λ l. e.after more (omega (arith, l, end))), (λ h. (let l = e.after_too more h in omega (arith, l, end))))

    pub inner-reads-from : Before k edit here i → ReadsFrom k edit here of.Block (suc levels) i
    inner-reads-from looks =
        let clear = no-errors k levels inner_text s there name level (omega (arith, around.starts, around.ends)) in
        let again = rereads k edit here in
        record {
          go = λ m h. goes-there k edit here again i m is.go clear is.none looks h;
          known = λ m go. then-known (run_at k levels s inner_w) (markup-of k (run_at k levels s inner_w) (is_block_run levels (moved s.at inner_w) (point_of s.start))) i m (first-now k edit here i looks is.go) go;
          alike = λ m u go known. (let a = alike k edit here again i m u is.go clear is.none looks go known in record { go = a.go; sum = a.sum; value = a.value; nodes = a.nodes });
        }

  -- After a run without an expression looks have to begin where those after the block do.
  pub inner-none-behind : (c : Candidate) (i n past : ℕ) (t : Trivia) → IsPieces k edit here c i n past t → n ≡ 0 → rear_in k edit ≤ v.closes ↔ After k edit here i n past t
  inner-none-behind c i (suc n) past t is none = absurd (omega (arith, none))
  inner-none-behind c (suc i) zero past t is none = absurd (let no = (is.empty refl).0 in omega (arith, no))
  inner-none-behind c zero zero past t is none =
      let over = (is.empty refl).1 in
      let e = empty-block-law k levels edit s past t there name level over is.known in
      let end = closing in
      let far : end.far ≡ past + left_past k levels 0 0 t s inner_z = omega (arith, end.ends, block-taken k levels edit s there name level 0 0 past t tt tt is.known is.ends) in
      let early = is.early in
      let fits = room-by k edit here of.Block (suc levels) inner-within-text c 0 0 past t (found-by k edit here of.Block (suc levels) c 0 0 past t is) (omega (arith, early)) in (
        (λ l. e.after (omega (arith, end-still k levels (moved s.at inner_z) (point_of s.start) t is.known over), omega (arith, fits), tt) (subst (λ p. AllBeginIn p edit.rest s.after) far (end.late.0 l))),
        (λ h. end.late.1 (subst (λ p. AllBeginIn p edit.rest s.after) (sym far) h.behind)),
      )

  -- ---- the entries that are exchanged

  part-of : (i m : ℕ) → (0 < i → TakesNone i q) → AllGo (first_of i q) → EndsBefore k levels edit s i → AllGo (then_of i m (run_at k levels s inner_w)) → InnerPart k levels edit here (cut_at here i inner_z) i m
  part-of zero m none g looks go = first-part k levels edit s there name level m around looks go
  part-of (suc j) m none g looks go = inner-part-law k levels edit s there name level (suc j) m (omega arith) g (none (omega arith)) looks go

  module _ (c : Candidate) (i n m past : ℕ) (t u : Trivia) (is : IsPieces k edit (block_run s levels there name level) c i n past t) (h : PassesJoint k edit (block_run s levels there name level) i n m past t u) (big_new : width (text_after edit) < 2 ^ 64 - 1) where
    -- where pieces stand in both texts, those of the pieces
    pub pieces-units : 0 < i + n → 0 < i + m → units_of (log k (text_after edit)) ≡ spliced (number_in k levels inner_text s i) (number_in k levels inner_text s (i + n)) (entries_by c.start (notes_by k (read_from k edit here of.Block (suc levels) i) m)) (units_of (log k inner_text))
    pieces-units some more =
        let splice = run-splice-law k edit here i n m past t u h (λ e. absurd (omega (arith, e, some))) (λ e. absurd (omega (arith, e, more))) big big_new in
        let part = part-of i m is.none is.go h.before h.new_go in
        let y = moved (cut_at here i inner_z) inner_w in
        let notes = (logged (suc levels) y no_log ((first_look (level_in k levels) y).asks ++ asks_of (read_alone (run_at k levels s inner_w) (first_end i q).value m y))).notes in
        let inner_own = ap (λ b. entries_from b notes) (begins-now k edit here of.Block (suc levels) c i n past t is) ∙ entries-listed c.start notes in
        let was = units_of (log k inner_text) in
        let to : number_in k levels inner_text s i + notes_in (asks_of (then_of i n q)) ≡ number_in k levels inner_text s (i + n) = sym (number-sum i n) in
        splice ∙ (λ j. spliced (number_in k levels inner_text s i) (to j) (entries_from (part.token j) (part.log_is j).notes) was) ∙ ap (λ ps. spliced (number_in k levels inner_text s i) (number_in k levels inner_text s (i + n)) ps was) inner_own

    -- and in any case those of the block
    block-units : units_of (log k (text_after edit)) ≡ spliced v.opens v.closes (entries_alone k (suc levels) block.Content v.mode (moved s.at inner_w)) (units_of (log k inner_text))
    block-units =
        let whole = around-splice-law k levels edit s there name level i n m past t u h big big_new in
        let opens : whole.opens ≡ v.opens = omega (arith, whole.number, v.before) in
        let to : suc (whole.opens + notes_in (unit_at s inner_z).asks) ≡ v.closes = omega (arith, opens, closing.last) in
        let alike = alone-same k edit s there h.before.before in
        let part = entries-same k edit s alike ∙ (λ j. entries_alone k (level j) (name j) (v.mode_is j) (moved s.at inner_w)) in
        whole.units ∙ (λ j. spliced (opens j) (to j) (part j) (units_of (log k inner_text)))

  unfoldable pub inner-entered : Entered k edit here of.Block (suc levels) (suc v.opens)
  inner-entered = record {
    number = number_in k levels inner_text s;
    count = v.count;
    most = v.most;
    over = v.over;
    begins = λ i l. subst (λ b. BeginsAt inner_es (suc v.opens) b (number_in k levels inner_text s i)) (sym (inner-byte-is i)) (v.begins i l);
    goes_on = λ i j some l few. subst (λ b. BeginsAt inner_es (number_in k levels inner_text s i) b (number_in k levels inner_text s j)) (sym (inner-byte-is j)) (v.goes_on i j l few);
    rises = v.rises;
    last = v.last;
    not_last = v.not_last;
    says = v.says;
    cuts = λ i j l go. (let less = inner-cuts-law k levels inner_text s i j l go in let one = inner-byte-is i in let two = inner-byte-is j in omega (arith, less, one, two));
    known = known-after q (markup-of k q (is_block_run levels (moved s.at inner_z) (point_of s.start)));
    meets = λ m x y h. h refl;
    met = λ m x y h is. h;
    alone = v.closes;
    alone_from = λ to. from_closing v.closes v.last refl v.closing;
    further = λ i m j l go. (let more = alone-further k (run_at k levels s inner_w) (is_block_run levels (moved s.at inner_w) (point_of s.start)) m j (first_end i q).value (moved (cut_at here i inner_z) inner_w) l go in omega (arith, more));
    within = inner-within-text;
    counts = count-law k q (is_block_run levels (moved s.at inner_z) (point_of s.start));
    before = inner-before-is;
    behind = inner-behind-is;
    alone_behind = inner-none-behind;
    reads = inner-reads-from;
    exchanged = λ big_new c i n m past t u is h some more. pieces-units c i n m past t u is h big_new some more;
  }

-- ---- a candidate

module _ (k : CharClasses) (edit : TextReplacement) (root : Tree) (c : Candidate) (same : bare root ≡ bare (tree k (text_before edit)))
    (chosen : Among c (candidates k edit root)) (is : c.is_block ≡ false) (big : width (text_before edit) < 2 ^ 64 - 1)
    (levels : ℕ) (s : Spot (Unit {0})) (there : Among s (blocks_of_text k (text_before edit))) (name : s.name ≡ block.Content) (level : max_depth - s.fewer ≡ suc levels) (path : c.path ≡ path_of s.hole ++ 1 ∷ [])
    (around : Around edit s) (i n past : ℕ) (t : Trivia) (p : IsPieces k edit (block_run s levels there name level) c i n past t) where
  abbrev whole_text : List ℕ
  whole_text = text_before edit

  abbrev inner_own : Run k (text_before edit)
  inner_own = block_run s levels there name level

  abbrev numbers_of : InnerNumbers k levels (text_before edit) s
  numbers_of = inner-numbers-law k levels (text_before edit) s there name level

  abbrev entries_of : Entered k edit (block_run s levels there name level) of.Block (suc levels) (suc numbers_of.opens)
  entries_of = inner-entered k levels edit s there name level around numbers_of big

  -- However the candidate passes, it does so by its inner_own block.
  by-block : (more : ℕ) (q : Spot (Unit {0})) (too : Among q (blocks_of_text k (text_before edit))) (name_too : q.name ≡ block.Content) (level_too : max_depth - q.fewer ≡ suc more) (j d m far : ℕ) (a u : Trivia) (ts : List Tree)
      → path_of q.hole ++ 1 ∷ [] ≡ c.path → FoundBy k edit c (home_of more q) j d far a → (0 < j ↔ 0 < c.from) → PassesPieces k edit (block_run q more too name_too level_too) j d m far a u
      → ts ≡ nodes_now (block_run q more too name_too level_too) j m u (start_after edit) → Passing k edit c (home_of levels s) numbers_of.closes i n ts
  unfolding inner-entered
  by-block more q too name_too level_too j d m far a u ts path_too g led_too h made =
      let beside = (begins-well-law k edit root (block_run q more too name_too level_too) c j d m far a u same chosen is (sym path_too) g.start led_too g.end h).0 in
      let one = length-append edit.front (edit.old ++ edit.rest) in
      let starts = around.starts in
      let starts_too = beside.starts in
      let inner_w = inner-numbers-law k more (text_before edit) q too name_too level_too in
      let byte = same-byte k whole_text s q there too (omega (arith, starts, around.ends)) (omega (arith, starts_too, beside.ends)) (sym path ∙ sym path_too) in
      let alike : home_of levels s ≡ home_of more q = same-home k whole_text s q levels more there too level level_too (omega (arith, starts, one)) (omega (arith, starts_too, one)) numbers_of inner_w byte in
      let spans = one-span k edit inner_own of.Block (suc levels) (suc numbers_of.opens) entries_of c i n past t (found-by k edit inner_own of.Block (suc levels) c i n past t p) j d far a
      (subst (λ (x : Home). FoundBy k edit c x j d far a) (sym alike) g) (omega (arith, p.early)) in
      let given : GivesPieces k edit (block_run q more too name_too level_too) j d m far a ts = record { behind = u; passes = h; are = made } in
      let here : GivesPieces k edit (block_run q more too name_too level_too) i n m past t ts = subst (λ (x : Span). GivesPieces k edit (block_run q more too name_too level_too) x.i x.n m x.past x.trivia ts) (sym spans) given in
      let is_too = pieces-too k levels more edit s q there name level too name_too level_too c i n past t alike p in
      let read = read-by k edit (block_run q more too name_too level_too) of.Block (suc more) (suc inner_w.opens) (inner-entered k more edit q too name_too level_too beside inner_w big) c i n past t is_too m here.behind here.passes in
      let pass : Passing k edit c (home_of more q) inner_w.closes i n ts = (m, read.0, here.are ∙ read.1) in
      let own_number = numbers_of.before in
      let number = ap (λ (x : Home). x.number) alike in
      let closes : inner_w.closes ≡ numbers_of.closes = ap (λ (x : Key). x.to) (says-same (entries_in k whole_text) 0 0 inner_w.opens inner_w.closes _ _ _ numbers_of.opens numbers_of.closes _ _ _ inner_w.says_block numbers_of.says_block (omega (arith, own_number, inner_w.before, number)) refl) in
      subst (λ (x : Home). Passing k edit c x numbers_of.closes i n ts) (sym alike) (subst (λ b. Passing k edit c (home_of more q) b i n ts) closes pass)

  passing : (ts : List Tree) → Gives k edit c ts → Passing k edit c (home_of levels s) numbers_of.closes i n ts
  passing ts (of_block q far whole too at passes made) = absurd (let no = sym is ∙ whole in cc)
  passing ts (of_pieces top j d m far a u plain at start led_too end h made) =
      absurd (omega (arith, ap length (at ∙ path), length-append (path_of s.hole) (1 ∷ [])))
  passing ts (of_pieces (inner q more too name_too level_too) j d m far a u plain at start led_too end h made) =
      by-block more q too name_too level_too j d m far a u ts at (record { go = h.first_go; go_on = h.old_go; known = h.known; ends = h.ends; start = start; end = end }) led_too h made

  pub inner-own-pieces : (ts : List Tree) → Gives k edit c ts → ((m : ℕ) × (u : Trivia) × PassesPieces k edit inner_own i n m past t u × (ts ≡ nodes_now inner_own i m u (start_after edit)))
  unfolding inner-entered
  inner-own-pieces ts h =
      let x = passing ts h in
      let g = given-by k edit inner_own of.Block (suc levels) (suc numbers_of.opens) entries_of c i n past t p x.0 x.1 in
      (x.0, g.behind, g.passes, x.2 ∙ sym g.nodes)

  module _ (big_new : width (text_after edit) < 2 ^ 64 - 1) where
    joint : (m : ℕ) (u : Trivia) → PassesPieces k edit inner_own i n m past t u → PassesJoint k edit (block_run s levels there name level) i n m past t u
    joint m u h =
        let well = begins-well-law k edit root inner_own c i n m past t u same chosen is path p.start p.led p.end h in
        joins-of k edit inner_own i n m past t u around h well.1.goes_on

    -- A candidate without a piece begins at the run's last entry.
    some-piece : (IsLast (entries_in k (text_before edit)) (entries_of.number i) → ⊥) → 0 < n
    some-piece more = pos_of_ne-zero (λ e. more (none-last k edit inner_own of.Block (suc levels) (suc numbers_of.opens) entries_of c i n past t p e))

    found-inner : start_at (take (length c.path - 1) c.path) 0 root ≡ width (take s.at (text_before edit)) → FoundInner k edit root c
    found-inner byte =
        let v = numbers_of in
        let starts = around.starts in
        record {
          opens = v.opens;
          is_opens = ap (λ b. opening_of b 0 0 (entries_in k (text_before edit))) byte ∙ v.opening;
          to = v.closes;
          levels = suc levels;
          mode = v.mode;
          says = v.says_block;
          some = omega arith;
          run = found k edit inner_own of.Block (suc levels) (suc numbers_of.opens) entries_of c i n past t p inner-own-pieces is (sym path)
              (λ m h some. (let here = some refl in
              let g = given-by k edit inner_own of.Block (suc levels) (suc numbers_of.opens) entries_of c i n past t p m h in
              let pieces = some-piece here.0 in
              let some_new = here.1 in
              entries_of.exchanged big_new c i n m past t g.behind p (joint m g.behind g.passes) (omega (arith, pieces)) (omega (arith, some_new))));
          at = s.at;
          start = byte;
          start_now = byte-at s.at (text_after edit) ∙ ap width (take-append-le s.at edit.front (edit.new ++ edit.rest) (omega (arith, starts)) ∙ sym (take-append-le s.at edit.front (edit.old ++ edit.rest) (omega (arith, starts)))) ∙ sym byte;
          units = λ ts gives. (let g = inner-own-pieces ts gives in block-units k levels edit s there name level around v big c i n g.0 past t g.1 p (joint g.0 g.1 g.2) big_new);
        }

pub inner-run-test-law : InnerRunTestLaw
inner-run-test-law k edit root c same chosen is path big big_new =
    let p = inner-pieces-of-law k edit root c same chosen is path in
    found-inner k edit root c same chosen is big p.levels p.s p.among p.name p.level p.path p.around p.i p.n p.past p.t p.is big_new p.byte
