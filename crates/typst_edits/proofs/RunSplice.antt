-- The units of a text with an edit inside a block, and inside some pieces of a run, its own or a content block's.
use Rattle.typst_edits.proofs.Cited.{◌≡◌, ℕ, suc, ◌+◌, ◌≤◌, List, [], ◌∷◌, ◌++◌, length, ap, sym, ◌∙◌, subst, arith, ◌==◌, inl, inr, zero, ◌-◌, ◌<◌, ◌^◌, Bool, true, map, append_assoc, Some, refl, false, None, eq-zero-or-pos, units_of, spliced, moved, Place, position, width, Ask, shift, SameIn, shift_one, marked, looked, no_log, logged, Outcome, start_point, hand_of, hand_asks_of, repeated, run, state_of, Trivia, Point, gap_of, point_of, markup_reading, ends, rules, max_depth, whole, parsed, log, level_at, start_of, AllEndBy, AllBeginIn, Noting, noting, notes_in, entries_from, token_start, block_log, closing, Spot, unit_at, lowered, lower, map-append, same, Entry, CharClasses, Look, look, no_look, is_end, AtHand, Hand, as_at_hand, hand_at, at_trivia, ahead_asks, hand_asks, peek, sane-at, AllFrom, passed, onwards, text_run, onwards_at, asked_past, end_note, run_mark, start, AllGo, asks_of, chain, lead, tail, whole_of, Sequence, turn_of, first_of, first_end, then_of, then_end, then_place, rest_of, note_at, looks_next, own_of, token, same_in-shift, same_in-first, same_in-second, moved-sum, inner, look_first, look_again, bracket, inner_lead, inner_run, content_with, run_at, tail_at, close_at, onwards_past, left_past, hand-ends, AroundSpliceLaw, text_before, text_after, start_before, start_after, EndsBare, pieces_log, root_run, TextReplacement, top, Among, blocks_of_text, PassesJoint}
use Rattle.typst_language.specs.declared.calls.Block.TheVariants as block
use Rattle.typst_edits.specs.BlockSplice.{BlockSpliceLaw}
use Rattle.typst_edits.specs.RunSplice.{RunSpliceLaw, SplicedRun}
use Rattle.typst_edits.specs.Frame.{inner as block_inner}
use Rattle.typst_edits.proofs.Bytes.{asks-are, notes-one, notes-own, AllMarks, marks-append, logged-lowered}
use Rattle.typst_edits.proofs.Seen.{AllSeen, seen-first, sees-level}
use Rattle.typst_edits.proofs.Splice.{splice-law, Side, Last, entries_at, back_at, count-append, count-shift, each-bare, each-from, from-zero, bare-shift, side-none, side-by, same-at, last-at, splice-texts, count-none}
use Rattle.typst_edits.proofs.Text.{block-law, names-law}
use Rattle.typst_edits.proofs.Boundary.{Begins, begins-append, looks_in, pieces-begin, piece_mark}
use Rattle.typst_edits.proofs.Edit.{before-same}
use Rattle.typst_edits.proofs.EmptyRuns.{Knows, Never, hand-asks, hand-gap, passed-kind, onwards-looks, end-look, token_look, end-any}
use Rattle.typst_edits.proofs.Every.{Every}
use Rattle.typst_edits.proofs.Forward.{ahead-from, lead-ahead}
use Rattle.typst_edits.proofs.Joint.{text-read, onwards-is, onwards-fronted, joint-law, block-read, inner-joint-law, known-read, text-taking, block-taking}
use Rattle.typst_edits.proofs.Outcomes.{shift-zero, shift-twice, shift-append}
use Rattle.typst_edits.proofs.BlockRuns.{whole-is, within, sane, seq_by, first-same}
use Rattle.typst_edits.proofs.RunBytes.{lead-bare, asks_before, content-asks, inner-lead-bare, before-marks, past-both}
use Rattle.typst_edits.proofs.RunTrees.{whole-asks, chained-asks}
use Rattle.typst_edits.proofs.Runs.{chain-state, split, split-taken}
use Rattle.typst_edits.proofs.Widths.{width-moved, take-width}
use Rattle.typst_edits.proofs.PieceAsks.{lifted, lifted_note, lifted-none, Cut as AnyCut, cut as cut-any, next-none as next-none-any, side-in, again, lifted-count, low-shift, begins-further, next-none as inner-next-none, Cut as InnerCut, cut as inner-cut, again as again-any, Plain}
use Rattle.typst_edits.proofs.Spots.{same_in-at}
use Rattle.typst_edits.proofs.Known.{Reached}
use Rattle.typst_edits.proofs.Resumed.{block-reached}
use Rattle.typst_language.specs.declared.calls.Mark.TheVariants as mark
use Rattle.typst_kinds.specs.declared.kind.SyntaxKind.TheVariants as kind
use Rattle.typst_kinds.specs.declared.mode.SyntaxMode.TheVariants as mode
use Rattle.typst_edits.proofs.Looks.{ending, from-byte, in-rest, looks-both, looks-first, looks-lowered, looks-shifted, looks-split}

-- ---- the units of a text with an edit inside a block

-- the note where a block begins
abbrev opening : {A : Type 0} → Spot A → Noting
opening c = record { at = c.at; gap = 0; fewer = c.fewer; mark = mark.Opens c.name; state = c.start }

-- what is asked of a text, by the two notes of a block
block-asks : {A : Type 0} (c : Spot A) (u : Outcome (Unit {0})) (asks earlier later : List Ask) (end : ℕ) → asks ≡ c.before ++ (shift c.at (lowered c.fewer u.asks) ++ shift (c.at + u.taken) c.after)
    → c.before ≡ earlier ++ noting (opening c) ∷ [] → c.after ≡ marked 0 0 c.fewer mark.Closes (state_of c.reached) ∷ later → c.at + u.taken ≡ end
    → asks ≡ earlier ++ noting (opening c) ∷ (shift c.at (lowered c.fewer u.asks) ++ noting (closing c u.taken) ∷ shift end later)
block-asks c u asks earlier later end e f g h =
    let stop = c.at + u.taken in
    let none : stop + 0 ≡ stop = omega arith in
    let behind : shift stop c.after ≡ noting (closing c u.taken) ∷ shift end later =
    ap (shift stop) g ∙ ap (λ n. marked n 0 c.fewer mark.Closes (state_of c.reached) ∷ shift stop later) none ∙ ap (λ n. noting (closing c u.taken) ∷ shift n later) h in
    asks-are asks c.before earlier (shift c.at (lowered c.fewer u.asks)) (shift stop c.after) (shift end later) (noting (opening c)) (noting (closing c u.taken)) e f behind

pub block-splice-law : BlockSpliceLaw
unfolding log
block-splice-law k edit c past i h big more =
    let z = start_before edit in
    let w = start_after edit in
    let a = unit_at c z in
    let b = unit_at c w in
    let named = names-law k (text_before edit) c i in
    let kept = block-law k edit c past i h in
    let end = (length edit.front + length edit.old) + past in
    let stop = (length edit.front + length edit.new) + past in
    let own = shift c.at (lowered c.fewer a.asks) in
    let fresh = shift c.at (lowered c.fewer b.asks) in
    let ends : c.at + a.taken ≡ end = omega (arith, h.ends) in
    let stops : c.at + b.taken ≡ stop = omega (arith, h.shifted) in
    let starts : c.at + 0 ≤ length edit.front = omega (arith, h.starts) in
    let was = block-asks c a (parsed k max_depth (text_before edit)).asks named.earlier named.later end kept.reading.was named.opened named.closed ends in
    let now = block-asks c b (parsed k max_depth (text_after edit)).asks named.earlier named.later stop kept.reading.log named.opened named.closed stops in
    let seen = sees-level (rules k) k max_depth whole z (start_point markup_reading) (length edit.front) (omega arith) in
    let early = looks-first (ending (length edit.front)) named.earlier _ (subst (AllEndBy (length edit.front)) named.opened h.before) in
    let noted = seen-first (length edit.front) named.earlier _ (subst (AllSeen (length edit.front)) was seen.noted) early in
    let late = subst (AllBeginIn past edit.rest) named.closed h.after in
    let from = notes_in named.earlier in
    let part = entries_from (position (moved c.at w)) (block_log (text_after edit) c b).notes in
    let last_old : (c.at + a.taken) + 0 ≡ end + 0 = omega (arith, h.ends) in
    let last_new : (c.at + b.taken) + 0 ≡ stop + 0 = omega (arith, h.shifted) in
    let law = splice-law max_depth edit past 0 named.earlier own fresh named.later (opening c) (closing c a.taken) (closing c b.taken) big more early noted starts last_old last_new late in
    record {
      opens = from;
      number = ap notes_in named.opened ∙ notes-one named.earlier c.at 0 c.fewer (mark.Opens c.name) c.start;
      units = ap (λ asks. units_of (logged max_depth w no_log asks)) now ∙ law
          ∙ ap (λ n. spliced from (suc (from + n)) part (units_of (logged max_depth z no_log (named.earlier ++ noting (opening c) ∷ (own ++ noting (closing c a.taken) ∷ shift end named.later))))) (notes-own c.at c.fewer a.asks)
          ∙ ap (λ asks. spliced from (suc (from + notes_in a.asks)) part (units_of (logged max_depth z no_log asks))) (sym was);
    }

-- ---- lists of asks

abbrev pub first_look : List Ask → Look
first_look [] = no_look
first_look (looked at seen ∷ asks) = seen
first_look (marked at gap fewer m s ∷ asks) = no_look

pub first-shift : (d : ℕ) (asks : List Ask) → first_look (shift d asks) ≡ first_look asks
first-shift d asks = grind arith

abbrev back_one : ℕ → Ask → Ask
back_one d (looked at seen) = looked (at - d) seen
back_one d (marked at gap fewer m s) = marked (at - d) gap fewer m s

back-shift : (d : ℕ) (asks : List Ask) → map (back_one d) (shift d asks) ≡ asks
back-shift d [] = refl
back-shift d (looked at seen ∷ asks) = let e : (d + at) - d ≡ at = omega arith in ap (λ n. looked n seen ∷ map (back_one d) (shift d asks)) e ∙ ap (λ u. looked at seen ∷ u) (back-shift d asks)
back-shift d (marked at gap fewer m s ∷ asks) = let e : (d + at) - d ≡ at = omega arith in ap (λ n. marked n gap fewer m s ∷ map (back_one d) (shift d asks)) e ∙ ap (λ u. marked at gap fewer m s ∷ u) (back-shift d asks)

-- Lists that are the same after a given number of characters.
pub unshifted : (d : ℕ) (xs ys : List Ask) → shift d xs ≡ shift d ys → xs ≡ ys
unshifted d xs ys e = sym (back-shift d xs) ∙ ap (map (back_one d)) e ∙ back-shift d ys

bare-second : (ls ks : List Ask) → AllMarks Never (ls ++ ks) → AllMarks Never ks
bare-second [] ks h = h
bare-second (looked at seen ∷ ls) ks h = bare-second ls ks h
bare-second (marked at gap fewer m s ∷ ls) ks h = absurd h.0

module _ (k : CharClasses) where
  -- ---- what is asked of a text

  -- up to some pieces, of them, and after them
  reading-asks : (text : List ℕ) (i n : ℕ) → (let z = start_of text in AllGo (first_of i (text_run k z)) → AllGo (then_of i n (text_run k z))
      → (parsed k max_depth text).asks ≡ run_mark ∷ (((lead k z).asks ++ asks_of (first_of i (text_run k z))) ++ shift (first_end i (text_run k z)).taken (asks_of (then_of i n (text_run k z)) ++ shift (then_end i n (text_run k z)).taken (onwards_at i n (text_run k z)).asks)))
  reading-asks text i n g h =
      let z = start_of text in
      let os = first_of i (text_run k z) in
      let ps = then_of i n (text_run k z) in
      let q = rest_of i n (text_run k z) in
      let r = chain os (chain ps q) in
      let e = first_end i (text_run k z) in
      let u = tail k ((e.taken + (then_end i n (text_run k z)).taken) + q.taken) q.state z in
      let tail_is : tail k r.taken r.state z ≡ u =
      ap (λ a. tail k a r.state z) (split-taken (text_run k z) i n) ∙ ap (λ s. tail k ((e.taken + (then_end i n (text_run k z)).taken) + q.taken) s z) (chain-state os (chain ps q) ∙ chain-state ps q) in
      let is : parsed k max_depth text ≡ whole_of (lead k z) r u =
      whole-is k text ∙ ap (λ o. whole_of (lead k z) o (tail k o.taken o.state z)) (split (text_run k z) (within k) i n g h) ∙ ap (whole_of (lead k z) r) tail_is in
      ap (λ (o : Outcome (Unit {0})). o.asks) is ∙ whole-asks k z r u ∙ ap (λ ls. run_mark ∷ ls) (chained-asks (lead k z).asks (true, 0) e.value (lead k z).state e.state os ps q u)

  -- all that is asked after the note where i pieces end
  abbrev pub all_asks : ℕ → ℕ → Place → List Ask
  all_asks i n z = looks_next (text_run k z) (lead k z).asks i ++ shift (first_end i (text_run k z)).taken (asks_of (then_of i n (text_run k z)) ++ shift (then_end i n (text_run k z)).taken (onwards_at i n (text_run k z)).asks)

  -- what is asked up to that note, and the looks after it
  pub record Cut (i : ℕ) (z : Place) : Type 0 where
    pub first : List Ask
    pub is : run_mark ∷ ((lead k z).asks ++ asks_of (first_of i (text_run k z))) ≡ first ++ noting (note_at (text_run k z) start i) ∷ looks_next (text_run k z) (lead k z).asks i
    pub count : notes_in first ≡ notes_in (asks_of (first_of i (text_run k z)))
    early : (n : ℕ) → (0 < i → AllEndBy n ((lead k z).asks ++ asks_of (first_of i (text_run k z)))) → AllEndBy n first

  next-none : (i : ℕ) (z : Place) → notes_in (looks_next (text_run k z) (lead k z).asks i) ≡ 0
  next-none i z = next-none-any (text_run k z) start (lead k z).asks i (lead-bare k z)

  abbrev cut_by : (i : ℕ) (z : Place) → AnyCut (text_run k z) start (lead k z).asks i → Cut i z
  cut_by i z c =
      record {
        first = c.early;
        is = c.is;
        count = c.count;
        early = λ n h. subst (λ u. AllEndBy n u) (shift-zero c.early) (c.ends n 0 (λ l. subst (λ u. AllEndBy n u) (sym (shift-zero ((lead k z).asks ++ asks_of (first_of i (text_run k z))))) (h l)));
      }

  pub cut : (i : ℕ) (z : Place) → AllGo (first_of i (text_run k z)) → Cut i z
  cut i z g = cut_by i z (cut-any (text_run k z) start (lead k z).asks i (lead-bare k z) g)

  -- all that is asked of a text, cut there
  pub cut-asks : (text : List ℕ) (i n : ℕ) → (let z = start_of text in (first : List Ask) (p : Noting) → AllGo (first_of i (text_run k z)) → AllGo (then_of i n (text_run k z))
      → run_mark ∷ ((lead k z).asks ++ asks_of (first_of i (text_run k z))) ≡ first ++ noting p ∷ looks_next (text_run k z) (lead k z).asks i → (parsed k max_depth text).asks ≡ first ++ noting p ∷ all_asks i n z)
  cut-asks text i n first p g h is =
      let z = start_of text in
      let more = shift (first_end i (text_run k z)).taken (asks_of (then_of i n (text_run k z)) ++ shift (then_end i n (text_run k z)).taken (onwards_at i n (text_run k z)).asks) in
      reading-asks text i n g h ∙ ap (λ u. u ++ more) is ∙ append_assoc first (noting p ∷ looks_next (text_run k z) (lead k z).asks i) more

  -- ---- the token after pieces

  -- pieces of a text that end before known trivia at a place, with what is asked after these
  record Tail (i n : ℕ) (z : Place) (t : Trivia) (end : ℕ) (last : List Ask) : Type 0 where
    known : (then_end i n (text_run k z)).state.known ≡ Some t
    ends : ((first_end i (text_run k z)).taken + (then_end i n (text_run k z)).taken) + t.gap ≡ end
    asks : hand_asks_of (level_at k max_depth) (then_place i n (text_run k z)) (then_end i n (text_run k z)).state ++ (onwards_at i n (text_run k z)).asks ≡ shift t.gap last

  -- after pieces, of which there is one at least
  side : (i n : ℕ) (z : Place) (t : Trivia) (end : ℕ) (last : List Ask) → AllGo (then_of i n (text_run k z)) → Tail i n z t end last → 0 < i + n
      → Side max_depth z (note_at (text_run k z) start i) (own_of (text_run k z) (lead k z).asks i n) (all_asks i n z) (entries_at max_depth z end last) (back_at max_depth z end last)
  side i n z t end last g a some =
      let r = text_run k z in
      let ls = (lead k z).asks in
      let e = first_end i (text_run k z) in
      let f = then_end i n (text_run k z) in
      let looks = hand_asks_of (level_at k max_depth) (then_place i n (text_run k z)) f.state in
      let on = (onwards_at i n (text_run k z)).asks in
      let both = e.taken + f.taken in
      let late : lifted 0 0 (shift both looks) ++ shift both on ≡ shift end last =
      ap (λ u. u ++ shift both on) (lifted-none (shift both looks)) ∙ sym (map-append (shift_one both) looks on) ∙ ap (shift both) a.asks ∙ shift-twice both t.gap last ∙ ap (λ d. shift d last) a.ends in
      let note : lifted_note 0 0 (note_at r start i) ≡ note_at (text_run k z) start i = (let at : 0 + e.taken ≡ e.taken = omega arith in ap (λ d. record (note_at r start i) { at = d }) at) in
      let own : lifted 0 0 (own_of r ls i n) ≡ own_of (text_run k z) (lead k z).asks i n = lifted-none (own_of r ls i n) in
      let all : lifted 0 0 (own_of r ls i n) ++ shift both on ≡ all_asks i n z =
      let sum : (x y z : ℕ) → (x + y) + z ≡ x + (y + z) = λ x y z. omega arith in ap (λ u. u ++ shift both on) own ∙ simp (map-append, shift-twice, append_assoc, sum) in
      subst (λ (x : Noting × List Ask × List Ask). Side max_depth z x.0 x.1 x.2 (entries_at max_depth z end last) (back_at max_depth z end last)) (λ v. (note v, own v, all v))
      (side-in r start ls max_depth 0 0 z (shift both on) end last i n g late (omega (arith, a.ends, ap gap_of a.known)) (λ none. absurd (omega (arith, none, some))))

  -- At the text's start no note follows the first if no piece is read and the run ends.
  side-start : (text : List ℕ) (t : Trivia) (end : ℕ) (last : List Ask) → (let z = start_of text in Tail 0 0 z t end last → AllMarks Never last → AllFrom 0 z (lead k z).asks → AllFrom 0 z (shift end last)
      → Side max_depth z (note_at (text_run k z) start 0) (own_of (text_run k z) (lead k z).asks 0 0) (all_asks 0 0 z) [] 0)
  unfolding position width
  side-start text t end last a none begun begun_last =
      let z = start_of text in
      let ls = (lead k z).asks in
      let on = (onwards_at 0 0 (text_run k z)).asks in
      let hand = hand_asks_of (level_at k max_depth) (then_place 0 0 (text_run k z)) (then_end 0 0 (text_run k z)).state in
      let same : t.gap ≡ end = omega (arith, a.ends) in
      let all_last : hand ++ on ≡ shift end last = a.asks ∙ ap (λ d. shift d last) same in
      let behind : AllMarks Never on = bare-second hand on (subst (λ u. AllMarks Never u) (sym all_last) (bare-shift end last none)) in
      let behind_too : AllFrom 0 z on = (looks-split (from-byte 0 z) hand on (subst (λ u. AllFrom 0 z u) (sym all_last) begun_last)).1 in
      let still : shift 0 (shift 0 on) ≡ on = shift-zero (shift 0 on) ∙ shift-zero on in
      side-none max_depth z (note_at (text_run k z) start 0) (own_of (text_run k z) (lead k z).asks 0 0) (all_asks 0 0 z) (marks-append Never ls [] (lead-bare k z) tt)
      (subst (λ u. AllMarks Never (ls ++ u)) (sym still) (marks-append Never ls on (lead-bare k z) behind))
      (subst (λ u. AllFrom 0 z (ls ++ u)) (sym still) (looks-both (from-byte 0 z) ls on begun behind_too)) refl

  -- None follows the last pieces of a text either.
  side-last : (text : List ℕ) (i n : ℕ) (t : Trivia) (end : ℕ) (last : List Ask) → (let z = start_of text in AllGo (then_of i n (text_run k z)) → Tail i n z t end last → AllMarks Never last → (i + n ≡ 0 → AllFrom 0 z (lead k z).asks)
      → AllFrom 0 z (shift end last) → Last max_depth z end last → Side max_depth z (note_at (text_run k z) start i) (own_of (text_run k z) (lead k z).asks i n) (all_asks i n z) [] 0)
  side-last text zero zero t end last g a none begun begun_last l = side-start text t end last a none (begun refl) begun_last
  side-last text (suc i) n t end last g a none begun begun_last l = side-by max_depth _ _ _ _ _ _ _ _ l.entries l.back (side (suc i) n (start_of text) t end last g a (omega arith))
  side-last text zero (suc n) t end last g a none begun begun_last l = side-by max_depth _ _ _ _ _ _ _ _ l.entries l.back (side zero (suc n) (start_of text) t end last g a (omega arith))

  -- ---- the new text

  -- the looks at a token that were looked at
  hands-same : (y v : Place) (s : Point) → SameIn (hand_asks_of (level_at k max_depth) y s) y v → hand_asks_of (level_at k max_depth) v s ≡ hand_asks_of (level_at k max_depth) y s
  unfolding run
  hands-same y v s h = ap (λ (o : Outcome AtHand). o.asks) ((sane-at (rules k) k max_depth peek).framed y v s h)

-- ---- the law

pub onwards-begin : (r : Sequence) (x : Bool × ℕ) (z : Place) (s : Point) → Begins (looks_in r z s) (onwards r x z s).asks
unfolding run
onwards-begin r x z s = begins-append (looks_in r z s) (repeated (turn_of r) x z s).asks _ (pieces-begin r x z s)

-- At the text's start, without a piece, the look at the first token is the one at the next token.
lead-begun : (k : CharClasses) (i n : ℕ) (z : Place) (t : Trivia) → (then_end i n (text_run k z)).state.known ≡ Some t → (token_look (level_at k max_depth) (moved t.gap (then_place i n (text_run k z)))).back ≡ 0 → i + n ≡ 0 → AllFrom 0 z (lead k z).asks
lead-begun k i n z t known h e = grind (arith, ahead-from, lead-ahead)

-- Where a text's run ends, its text does.
ends-there : (k : CharClasses) (y : Place) (s : Point) (t : Trivia) (x : ℕ) → s.held ≡ markup_reading → s.known ≡ Some t → ends is_end x (hand_of (level_at k max_depth) y s).kind ≡ true → (moved t.gap y).ahead ≡ []
ends-there k y s t x held known over =
    let l = level_at k max_depth in
    let h = hand_at k markup_reading s.known y in
    let alike : hand_of l y s ≡ h = ap (λ r. hand_at k r s.known y) held in
    let gap : (hand_of l y s).gap ≡ t.gap = hand-gap l y t.gap s (record { held = held; trivia = t; known = known; gap = refl }) in
    ap (λ n. (moved n y).ahead) (sym gap ∙ ap (λ (g : Hand). g.gap) alike) ∙ hand-ends k mode.Markup s.known y (end-any (same kind.RightBracket h.kind) (is_end h.kind) (x == 0) (ap (λ (g : Hand). ends is_end x g.kind) (sym alike) ∙ over))

record Both (k : CharClasses) (i n m : ℕ) (z w : Place) : Type 0 where
  behind : List Entry
  back : ℕ
  one : Side max_depth z (note_at (text_run k z) start i) (own_of (text_run k z) (lead k z).asks i n) (all_asks k i n z) behind back
  two : Side max_depth w (note_at (text_run k w) start i) (own_of (text_run k w) (lead k w).asks i m) (all_asks k i m w) behind back

word-fits : (text : List ℕ) (n : ℕ) → width text < 2 ^ 64 - 1 → position (moved n (start_of text)) < 2 ^ 64 - 1
unfolding position
word-fits text n big = omega (arith, width-moved n text, take-width n text, big)

own-splice : (k : CharClasses) (edit : TextReplacement) (i n m past : ℕ) (t u : Trivia) → PassesJoint k edit top i n m past t u
    → (let own = root_run k (text_before edit) in (i + n ≡ 0 → EndsBare own i n t (start_before edit)) → (i + m ≡ 0 → EndsBare own i n u (start_before edit))
    → width (text_before edit) < 2 ^ 64 - 1 → width (text_after edit) < 2 ^ 64 - 1 → SplicedRun k edit own i n m)
unfolding log
own-splice k edit i n m past t u h over over_new big big_new =
    let z = start_before edit in
    let w = start_after edit in
    let end = (length edit.front + length edit.old) + past in
    let stop = (length edit.front + length edit.new) + past in
    let kept = joint-law k edit i n m past t u h in
    let l = level_at k max_depth in
    let r = text_run k z in
    let y = then_place i n (text_run k z) in
    let v = then_place i m (text_run k w) in
    let s = (then_end i n (text_run k z)).state in
    let q = (then_end i m (text_run k w)).state in
    let x = (then_end i n (text_run k z)).value in
    let asks = asked_past k i n t z in
    let seen = token_look l (moved t.gap y) in
    let last = looked 0 seen ∷ asks in
    let held = (text-read k i n z).held in
    let knows_passed : Knows 0 (passed t s) = record { held = held; trivia = _; known = refl; gap = refl } in
    let new_first : AllGo (first_of i (text_run k w)) = subst (λ os. AllGo os) (sym kept.first) h.first_go in
    -- the token after the old pieces, and after the new ones
    let hand_old : hand_asks_of l y s ≡ looked t.gap seen ∷ [] = hand-asks l y t.gap s (record { held = held; trivia = t; known = h.meets.known; gap = refl }) in
    let hand_new = hand-asks l v u.gap q (record { held = (text-read k i m w).held; trivia = u; known = h.meets.known_now; gap = refl }) in
    let on_old : (onwards_at i n (text_run k z)).asks ≡ shift t.gap asks = (onwards-fronted (text_run k z) (text-taking k) i n t h.meets.known).asks in
    let on_new : (onwards_at i m (text_run k w)).asks ≡ shift u.gap asks = kept.behind.asks_now ∙ ap (shift u.gap) (unshifted t.gap kept.behind.looks asks (sym kept.behind.asks ∙ on_old)) in
    let b = onwards-begin r x (moved t.gap y) (passed t s) in
    let first_old : asks ≡ looked 0 seen ∷ b.more = b.is ∙ ap (λ ls. ls ++ b.more) (hand-asks l (moved t.gap y) 0 (passed t s) knows_passed) in
    let c = onwards-begin (text_run k w) (then_end i m (text_run k w)).value v q in
    let first_new : (onwards_at i m (text_run k w)).asks ≡ looked u.gap (token_look l (moved u.gap v)) ∷ c.more =
    ap (λ (o : Outcome (Unit {0})). o.asks) (onwards-is (text_run k w) i m) ∙ c.is ∙ ap (λ ls. ls ++ c.more) hand_new in
    let same_seen : token_look l (moved u.gap v) ≡ seen = ap first_look (sym first_new ∙ on_new) ∙ first-shift u.gap asks ∙ ap first_look first_old in
    let none : (d : ℕ) → looked d seen ∷ shift d asks ≡ shift d last = λ d. ap (λ a. looked a seen ∷ shift d asks) (omega arith) in
    let tail_old : Tail k i n z t end last = record {
      known = h.meets.known;
      ends = omega (arith, h.ends);
      asks = ap (λ ls. ls ++ (onwards_at i n (text_run k z)).asks) hand_old ∙ ap (λ ls. looked t.gap seen ∷ ls) on_old ∙ none t.gap;
    } in
    let tail_new : Tail k i m w u stop last = record {
      known = h.meets.known_now;
      ends = omega (arith, h.shifted);
      asks = ap (λ ls. ls ++ (onwards_at i m (text_run k w)).asks) hand_new ∙ ap (λ a. looked u.gap a ∷ (onwards_at i m (text_run k w)).asks) same_seen ∙ ap (λ ls. looked u.gap seen ∷ ls) on_new ∙ none u.gap;
    } in
    let first_begins = subst (AllBeginIn past edit.rest) first_old h.after in
    let begins : AllBeginIn past edit.rest last = (first_begins.0, first_begins.1, h.after) in
    -- both sides, if a piece is there and if the run ends
    let apart : 0 < i + n → 0 < i + m → Both k i n m z w = λ some some_new.
    (let same = same-at max_depth edit past last big big_new begins in
    record {
      behind = entries_at max_depth z end last;
      back = back_at max_depth z end last;
      one = side k i n z t end last h.old_go tail_old some;
      two = side-by max_depth _ _ _ _ _ _ _ _ same.entries same.back (side k i m w u stop last h.new_go tail_new some_new);
    }) in
    let ended : EndsBare (root_run k (text_before edit)) i n t z → Both k i n m z w = λ o.
    (let stops : ends r.stops x.1 (as_at_hand (hand_of l (moved t.gap y) (passed t s))).kind ≡ true = ap (ends is_end x.1) (passed-kind l y t s h.meets.known) ∙ o in
    let each : Every (λ a. a ≡ looked 0 seen) last = (refl, (onwards-looks r x (moved t.gap y) (passed t s) knows_passed stops).each) in
    let still : seen.back ≡ 0 = end-look k (moved t.gap y).before (moved t.gap y).ahead (ends-there k y s t x.1 held h.meets.known o) in
    let still_new : (token_look l (moved u.gap v)).back ≡ 0 = ap (λ (a : Look). a.back) same_seen ∙ still in
    record {
      behind = [];
      back = 0;
      one = side-last k (text_before edit) i n t end last h.old_go tail_old (each-bare seen last each) (lead-begun k i n z t h.meets.known still)
          (from-zero (position (moved end z)) z (shift end last) (each-from end seen z last still each)) (last-at max_depth z end seen last still each (word-fits (text_before edit) end big));
      two = side-last k (text_after edit) i m u stop last h.new_go tail_new (each-bare seen last each) (lead-begun k i m w u h.meets.known_now still_new)
          (from-zero (position (moved stop w)) w (shift stop last) (each-from stop seen w last still each)) (last-at max_depth w stop seen last still each (word-fits (text_after edit) stop big_new));
    }) in
    let both : Both k i n m z w = elim (eq-zero-or-pos (i + n)) [
      | inl e ↦ ended (over e)
      | inr some ↦ elim (eq-zero-or-pos (i + m)) [ inl e ↦ ended (over_new e) | inr some_new ↦ apart some some_new ]
    ] in
    -- what is asked of both
    let any = cut-any r start (lead k z).asks i (lead-bare k z) h.first_go in
    let cuts = cut_by k i z any in
    let p = note_at (text_run k z) start i in
    let more = again r (text_run k w) start (lead k z).asks (lead k w).asks i any kept.first (λ some. ap (λ (o : Outcome AtHand). o.state) (kept.lead_same some)) (λ some. ap (λ (o : Outcome AtHand). o.asks) (kept.lead_same some))
    (λ some. before-same _ edit (h.before some)) (hands-same k) in
    let note_same : note_at (text_run k w) start i ≡ p = more.note in
    let was = cut-asks k (text_before edit) i n cuts.first p h.first_go h.old_go cuts.is in
    let now = cut-asks k (text_after edit) i m cuts.first p new_first h.new_go more.is in
    let own_count : notes_in (own_of (text_run k z) (lead k z).asks i n) ≡ notes_in (asks_of (then_of i n (text_run k z))) =
    count-append (looks_next (text_run k z) (lead k z).asks i) _ ∙ ap (λ a. a + notes_in (shift (first_end i (text_run k z)).taken (asks_of (then_of i n (text_run k z))))) (next-none k i z) ∙ omega (arith, count-shift (first_end i (text_run k z)).taken (asks_of (then_of i n (text_run k z)))) in
    splice-texts k edit cuts.first p (note_at (text_run k w) start i) (own_of (text_run k z) (lead k z).asks i n) (all_asks k i n z) (own_of (text_run k w) (lead k w).asks i m) (all_asks k i m w) both.behind both.back (notes_in (asks_of (first_of i (text_run k z)))) (notes_in (asks_of (then_of i n (text_run k z))))
    was now note_same (cuts.early (length edit.front) h.before) both.one both.two cuts.count own_count

-- ---- the look at a first token without trivia before it

pub hand-direct : (k : CharClasses) (z : Place) → at_trivia k mode.Markup z ≡ false → hand_asks k markup_reading None z ≡ looked 0 (look (token k mode.Markup) z) ∷ []
unfolding hand_asks ahead_asks
hand-direct k z clear = grind arith

module _ (k : CharClasses) (levels : ℕ) where
  -- a block's run without trivia before its first token
  plain-in : (z : Place) (s : Point) (t : Trivia) → (inner_run k levels z s).point.known ≡ Some t → t.gap ≡ 0 → Plain (inner_run k levels z s) (bracket k levels z s).state (inner_lead k levels z s).asks
  unfolding run
  plain-in z s t known none =
      let r = inner_run k levels z s in
      let p = r.point in
      let read = block-read k levels 0 0 z s in
      let clear_there : at_trivia k mode.Markup (moved t.gap r.place) ≡ false = subst (λ q. Reached k r.place q) (known-read k markup_reading p t known read) (block-reached k levels z s 0) in
      let clear : at_trivia k mode.Markup r.place ≡ false = subst (λ n. at_trivia k mode.Markup (moved n r.place) ≡ false) none clear_there in
      record {
        looks = ap (λ h. hand_asks k h None r.place) read.held ∙ hand-direct k r.place clear ∙ sym (hand-asks (inner k levels) r.place 0 p (record { held = read.held; trivia = t; known = known; gap = none }));
        gap = sym (ap gap_of known ∙ none);
      }

  -- ---- before the pieces, in two texts

  before-again : (z w : Place) (s : Point) → SameIn (asks_before k levels z s) z w → bracket k levels w s ≡ bracket k levels z s → asks_before k levels w s ≡ asks_before k levels z s
  before-again z w s h same =
      let a = same_in-second (look_first k levels z s).asks _ z w h in
      let first : look_first k levels w s ≡ look_first k levels z s = (sane k levels peek).framed z w s (same_in-first (look_first k levels z s).asks _ z w h) in
      let second : look_again k levels w s ≡ look_again k levels z s =
      ap (λ (o : Outcome AtHand). look_first k levels w o.state) first ∙ (sane k levels peek).framed z w (look_first k levels z s).state (same_in-first (look_again k levels z s).asks _ z w a) in
      (λ v. (first v).asks ++ ((second v).asks ++ (same v).asks))

  -- the look at the first token after a bracket
  abbrev lead_by : Outcome (Unit {0}) → Place → Outcome AtHand
  lead_by b z = run (inner k levels) peek (moved b.taken z) b.state

  -- the looks at a token that were looked at
  inner-hands-same : (y v : Place) (s : Point) → SameIn (hand_asks_of (inner k levels) y s) y v → hand_asks_of (inner k levels) v s ≡ hand_asks_of (inner k levels) y s
  unfolding run
  inner-hands-same y v s h = ap (λ (o : Outcome AtHand). o.asks) ((sane k levels peek).framed y v s h)

  -- what is asked up to the note where i pieces end, where this is the note and this comes before it
  record Again (i : ℕ) (early : List Ask) (p : Noting) (w : Place) (d : Outcome (Unit {0})) : Type 0 where
    note : note_at (seq_by k levels d w) d.state i ≡ p
    is : piece_mark 0 (true, 0) d.state ∷ ((lead_by d w).asks ++ asks_of (first_of i (seq_by k levels d w))) ≡ early ++ noting p ∷ looks_next (seq_by k levels d w) (lead_by d w).asks i

  inner-again : (i : ℕ) (z w : Place) (b : Outcome (Unit {0})) (c : InnerCut (seq_by k levels b z) b.state (lead_by b z).asks i) → first_of i (seq_by k levels b w) ≡ first_of i (seq_by k levels b z)
      → (0 < i → SameIn ((lead_by b z).asks ++ asks_of (first_of i (seq_by k levels b z))) (moved b.taken z) (moved b.taken w)) → Again i c.early (note_at (seq_by k levels b z) b.state i) w b
  inner-again i z w b c e h =
      let y = moved b.taken z in
      let v = moved b.taken w in
      let o = lead_by b z in
      let led = λ (some : 0 < i). (sane k levels peek).framed y v b.state (same_in-first o.asks _ y v (h some)) in
      let a = again-any (seq_by k levels b z) (seq_by k levels b w) b.state o.asks (lead_by b w).asks i c e (λ some. ap (λ (l : Outcome AtHand). l.state) (led some)) (λ some. ap (λ (l : Outcome AtHand). l.asks) (led some)) h inner-hands-same in
      record { note = a.note; is = a.is }

  -- what is asked of a block, by its pieces and what is after them
  inner-asks : (z : Place) (s : Point) (i n : ℕ) (tail : Outcome (Unit {0})) (close : Outcome Bool) → (let r = inner_run k levels z s in
      (content_with k levels z s (chain (first_of i r) (chain (then_of i n r) (rest_of i n r))) tail close).asks
      ≡ asks_before k levels z s ++ shift (bracket k levels z s).taken ((piece_mark 0 (true, 0) (bracket k levels z s).state ∷ ((inner_lead k levels z s).asks ++ asks_of (first_of i r)))
      ++ shift (first_end i r).taken (asks_of (then_of i n r) ++ shift (then_end i n r).taken ((rest_of i n r).asks ++ shift (rest_of i n r).taken (tail.asks ++ shift tail.taken close.asks)))))
  inner-asks z s i n tail close =
      let r = inner_run k levels z s in
      let e = first_end i r in
      let q = rest_of i n r in
      let all = record tail { asks = tail.asks ++ shift tail.taken close.asks } in
      content-asks k levels z s (chain (first_of i r) (chain (then_of i n r) q)) tail close
      ∙ ap (λ ls. asks_before k levels z s ++ shift (bracket k levels z s).taken (piece_mark 0 (true, 0) (bracket k levels z s).state ∷ ls))
      (chained-asks (inner_lead k levels z s).asks (true, 0) e.value r.point e.state (first_of i r) (then_of i n r) q all)

-- what is asked of a text, by the note where pieces of a block end
whole-cut : (a f b e g : ℕ) (before opens early next own behind after first : List Ask) (p : Noting) → first ≡ early ++ noting p ∷ next
    → before ++ (lifted a f (opens ++ shift b (first ++ shift e (own ++ shift g behind))) ++ after)
    ≡ (before ++ (lifted a f opens ++ lifted (a + b) f early)) ++ noting (lifted_note (a + b) f p) ∷ (lifted (a + b) f (next ++ shift e own) ++ (lifted (a + b) f (shift (e + g) behind) ++ after))
whole-cut a f b e g before opens early next own behind after first p is =
    let sum : (x y z : ℕ) → (x + y) + z ≡ x + (y + z) = λ x y z. omega arith in
    let any : (one : List Ask) → first ≡ early ++ (one ++ next) → before ++ (lifted a f (opens ++ shift b (first ++ shift e (own ++ shift g behind))) ++ after)
    ≡ (before ++ (lifted a f opens ++ lifted (a + b) f early)) ++ (lifted (a + b) f one ++ (lifted (a + b) f (next ++ shift e own) ++ (lifted (a + b) f (shift (e + g) behind) ++ after))) =
    λ one h. simp (h, low-shift, map-append (lower f), shift-append, shift-twice, append_assoc, sum) in
    any (noting p ∷ []) is

-- what is asked from the token after pieces on
late-is : (a f n gap end left : ℕ) (seen : Look) (hand behind asks after : List Ask) → hand ≡ looked gap seen ∷ [] → behind ≡ shift gap asks → (a + n) + gap ≡ end
    → lifted a f (shift n hand) ++ (lifted a f (shift n behind) ++ shift (end + left) after) ≡ shift end (lowered f (looked 0 seen ∷ asks) ++ shift left after)
late-is a f n gap end left seen hand behind asks after hand_is behind_is sum =
    let at : a + (n + gap) ≡ end = omega (arith, sum) in let none : end + 0 ≡ end = omega arith in simp (hand_is, behind_is, low-shift, shift-twice, at, none)
    (ap (λ u. looked end seen ∷ (shift end (lowered f asks) ++ u)) (sym (shift-twice end left after)) ∙ ap (λ u. looked end seen ∷ u) (sym (map-append (shift_one end) (lowered f asks) (shift left after))))

-- a run at its start, where no piece is read
start-known : (r : Sequence) (i n : ℕ) (t : Trivia) → (then_end i n r).state.known ≡ Some t → i + n ≡ 0 → r.point.known ≡ Some t
start-known r i n t h e = grind arith

-- ---- the laws

pub around-splice-law : AroundSpliceLaw
around-splice-law k levels edit c among name level i n m past t u h =
    block-splice-law k edit c _ among (inner-joint-law k levels edit c among name level i n m past t u h).passes

inner-splice : (k : CharClasses) (levels : ℕ) (edit : TextReplacement) (c : Spot (Unit {0})) (among : Among c (blocks_of_text k (text_before edit))) (name : c.name ≡ block.Content) (level : max_depth - c.fewer ≡ suc levels) (i n m past : ℕ) (t u : Trivia)
    → (let own = block_inner c levels among name level in PassesJoint k edit own i n m past t u → (i + n ≡ 0 → t.gap ≡ 0) → (i + m ≡ 0 → u.gap ≡ 0)
    → width (text_before edit) < 2 ^ 64 - 1 → width (text_after edit) < 2 ^ 64 - 1 → SplicedRun k edit own i n m)
unfolding log
inner-splice k levels edit c among name level i n m past t u h none none_new big big_new =
    let z0 = start_before edit in
    let w0 = start_after edit in
    let z = moved c.at z0 in
    let w = moved c.at w0 in
    let s = point_of c.start in
    let f = c.fewer in
    let end = (length edit.front + length edit.old) + past in
    let stop = (length edit.front + length edit.new) + past in
    let kept = inner-joint-law k levels edit c among name level i n m past t u h in
    let same = first-same k levels edit c i h.before in
    let r = run_at k levels c z0 in
    let q = run_at k levels c w0 in
    let b = bracket k levels z s in
    let d = bracket k levels w s in
    let l = inner k levels in
    let e = first_end i r in
    let j = first_end i q in
    let x = then_end i n r in
    let v = then_end i m q in
    let new_first : AllGo (first_of i q) = subst (λ os. AllGo os) (sym same.first) h.first_go in
    let close = close_at k levels i n c z0 in
    let tail_old = tail_at k levels i n c z0 in
    let tail_new = tail_at k levels i m c w0 in
    let rest_old = rest_of i n r in
    let rest_new = rest_of i m q in
    let on = onwards_past k levels i n t c z0 in
    let left = left_past k levels i n t c z0 in
    let y = then_place i n r in
    let o = then_place i m q in
    let asks = on.asks ++ shift on.taken close.asks in
    let seen = token_look l (moved t.gap y) in
    let last = lowered f (looked 0 seen ∷ asks) ++ shift left c.after in
    -- all after the pieces, in both texts
    let fronted = onwards-fronted (run_at k levels c z0) (block-taking k levels) i n t h.meets.known in
    let more_is : kept.behind.more ≡ on.taken = omega (arith, kept.behind.taken, fronted.taken) in
    let on_is : kept.behind.looks ≡ on.asks = unshifted t.gap kept.behind.looks on.asks (sym kept.behind.asks ∙ fronted.asks) in
    let behind_old = past-both rest_old tail_old close.asks on.asks t.gap on.taken fronted.asks fronted.taken in
    let behind_new = past-both rest_new tail_new close.asks on.asks u.gap on.taken (kept.behind.asks_now ∙ ap (shift u.gap) on_is) (kept.behind.taken_now ∙ ap (λ a. u.gap + a) more_is) in
    -- the token there
    let read = block-read k levels i n z s in
    let hand_old : hand_asks_of l y x.state ≡ looked t.gap seen ∷ [] = hand-asks l y t.gap x.state (record { held = read.held; trivia = t; known = h.meets.known; gap = refl }) in
    let hand_new = hand-asks l o u.gap v.state (record { held = (block-read k levels i m w s).held; trivia = u; known = h.meets.known_now; gap = refl }) in
    let begun = onwards-begin r x.value (moved t.gap y) (passed t x.state) in
    let first_old : asks ≡ looked 0 seen ∷ (begun.more ++ shift on.taken close.asks) =
    ap (λ ls. ls ++ shift on.taken close.asks) (begun.is ∙ ap (λ ls. ls ++ begun.more) (hand-asks l (moved t.gap y) 0 (passed t x.state) (record { held = read.held; trivia = _; known = refl; gap = refl }))) in
    let begun_new = pieces-begin q v.value o v.state in
    let rest_asks = shift rest_new.taken (tail_new.asks ++ shift tail_new.taken close.asks) in
    let first_new : rest_new.asks ++ rest_asks ≡ looked u.gap (token_look l (moved u.gap o)) ∷ (begun_new.more ++ rest_asks) =
    ap (λ ls. ls ++ rest_asks) (begun_new.is ∙ ap (λ ls. ls ++ begun_new.more) hand_new) in
    let same_seen : token_look l (moved u.gap o) ≡ seen = ap first_look (sym first_new ∙ behind_new) ∙ first-shift u.gap asks ∙ ap first_look first_old in
    let hand_now : hand_asks_of l o v.state ≡ looked u.gap seen ∷ [] = hand_new ∙ ap (λ a. looked u.gap a ∷ []) same_seen in
    let first_begins = subst (AllBeginIn past edit.rest) first_old h.after.inside in
    let begins : AllBeginIn past edit.rest last =
    looks-both (in-rest past edit.rest) (lowered f (looked 0 seen ∷ asks)) (shift left c.after) (looks-lowered (in-rest past edit.rest) f (looked 0 seen ∷ asks) (first_begins.0, first_begins.1, h.after.inside)) (begins-further past left edit.rest c.after h.after.behind) in
    -- where the pieces and the block end
    let at = c.at + b.taken in
    let at_new = c.at + d.taken in
    let block_end : c.at + (unit_at c z0).taken ≡ end + left = omega (arith, kept.passes.ends) in
    let block_stop : c.at + (unit_at c w0).taken ≡ stop + left = omega (arith, kept.passes.shifted) in
    let more_old = lifted at f (shift (e.taken + x.taken) (rest_old.asks ++ shift rest_old.taken (tail_old.asks ++ shift tail_old.taken close.asks))) ++ shift (end + left) c.after in
    let more_new = lifted at_new f (shift (j.taken + v.taken) (rest_new.asks ++ rest_asks)) ++ shift (stop + left) c.after in
    let late_old = late-is at f (e.taken + x.taken) t.gap end left seen _ _ asks c.after hand_old behind_old h.ends in
    let late_new = late-is at_new f (j.taken + v.taken) u.gap stop left seen _ _ asks c.after hand_now behind_new h.shifted in
    let ls = (inner_lead k levels z s).asks in
    let ls_new = (inner_lead k levels w s).asks in
    let here : (at + (e.taken + x.taken)) + gap_of x.state.known ≡ end = ap (λ a. (at + (e.taken + x.taken)) + gap_of a) h.meets.known ∙ h.ends in
    let here_new : (at_new + (j.taken + v.taken)) + gap_of v.state.known ≡ stop = ap (λ a. (at_new + (j.taken + v.taken)) + gap_of a) h.meets.known_now ∙ h.shifted in
    let side_old = side-in r b.state ls max_depth at f z0 more_old end last i n h.old_go late_old here (λ a. plain-in k levels z s t (start-known r i n t h.meets.known a) (none a)) in
    let side_new = side-in q d.state ls_new max_depth at_new f w0 more_new stop last i m h.new_go late_new here_new (λ a. plain-in k levels w s u (start-known q i m u h.meets.known_now a) (none_new a)) in
    let alike = same-at max_depth edit past last big big_new begins in
    -- what is asked before them
    let cuts = inner-cut r b.state ls i (inner-lead-bare k levels z s) h.first_go in
    let shown : 0 < i → SameIn (ls ++ asks_of (first_of i r)) (moved b.taken z) (moved b.taken w) = λ some.
    same_in-at _ _ _ _ _ (sym (moved-sum c.at b.taken z0)) (sym (moved-sum c.at b.taken w0)) (same_in-shift at _ z0 w0 (before-same _ edit (h.before.before_run some))) in
    let first_by : first_of i (seq_by k levels b w) ≡ first_of i r = ap (λ (a : Outcome (Unit {0})). first_of i (seq_by k levels a w)) (sym same.opened) ∙ same.first in
    let p = note_at r b.state i in
    let once : Again k levels i cuts.early p w d = subst (Again k levels i cuts.early p w) (sym same.opened) (inner-again k levels i z w b cuts first_by shown) in
    let opens = asks_before k levels z s in
    let opens_new : asks_before k levels w s ≡ opens = before-again k levels z w s (same_in-shift c.at _ z0 w0 (before-same _ edit h.before.opens)) same.opened in
    let at_same : at_new ≡ at = ap (λ (a : Outcome (Unit {0})). c.at + a.taken) same.opened in
    let first = c.before ++ (lifted c.at f opens ++ lifted at f cuts.early) in
    let note = lifted_note at f p in
    let own = lifted at f (own_of r ls i n) in
    let own_new = lifted at_new f (own_of q ls_new i m) in
    let was : (parsed k max_depth (text_before edit)).asks ≡ first ++ noting note ∷ (own ++ more_old) =
    kept.kept.reading.was ∙ ap (λ a. c.before ++ (lifted c.at f (unit_at c z0).asks ++ shift a c.after)) block_end
    ∙ ap (λ a. c.before ++ (lifted c.at f a ++ shift (end + left) c.after)) (ap (λ (a : Outcome (Unit {0})). a.asks) kept.was ∙ inner-asks k levels z s i n tail_old close)
    ∙ whole-cut c.at f b.taken e.taken x.taken c.before opens cuts.early (looks_next r ls i) (asks_of (then_of i n r)) _ (shift (end + left) c.after) _ p cuts.is in
    let now_by : unit_at c w0 ≡ content_with k levels w s (chain (first_of i q) (chain (then_of i m q) rest_new)) tail_new close =
    kept.now ∙ ap (λ os. content_with k levels w s (chain os (chain (then_of i m q) rest_new)) tail_new close) (sym same.first) in
    let now : (parsed k max_depth (text_after edit)).asks ≡ first ++ noting note ∷ (own_new ++ more_new) =
    kept.kept.reading.log ∙ ap (λ a. c.before ++ (lifted c.at f (unit_at c w0).asks ++ shift a c.after)) block_stop
    ∙ ap (λ a. c.before ++ (lifted c.at f a ++ shift (stop + left) c.after)) (ap (λ (a : Outcome (Unit {0})). a.asks) now_by ∙ inner-asks k levels w s i m tail_new close)
    ∙ whole-cut c.at f d.taken j.taken v.taken c.before (asks_before k levels w s) cuts.early (looks_next q ls_new i) (asks_of (then_of i m q)) _ (shift (stop + left) c.after) _ p once.is
    ∙ (λ v. (c.before ++ (lifted c.at f (opens_new v) ++ lifted (at_same v) f cuts.early)) ++ noting (lifted_note (at_same v) f p) ∷ (own_new ++ more_new)) in
    let early : AllEndBy (length edit.front) first =
    looks-both (ending (length edit.front)) c.before _ h.before.before (looks-both (ending (length edit.front)) (lifted c.at f opens) (lifted at f cuts.early) (looks-lowered (looks-shifted (ending (length edit.front)) c.at) f opens h.before.opens)
    (looks-lowered (looks-shifted (ending (length edit.front)) at) f cuts.early (cuts.ends (length edit.front) at h.before.before_run))) in
    let note_new : lifted_note at_new f (note_at q d.state i) ≡ note = ap (λ a. lifted_note a f (note_at q d.state i)) at_same ∙ ap (lifted_note at f) once.note in
    -- in numbers
    let pieces = asks_of (first_of i r) in
    let own_pieces = asks_of (then_of i n r) in
    let opens_none = lifted-count c.at f opens ∙ count-none opens (before-marks k levels Never z s) in
    let from_early = lifted-count at f cuts.early ∙ cuts.count in
    let from_is : notes_in first ≡ notes_in c.before + notes_in pieces =
    count-append c.before _ ∙ ap (λ a. notes_in c.before + a) (count-append (lifted c.at f opens) (lifted at f cuts.early) ∙ ap (λ a. a + notes_in (lifted at f cuts.early)) opens_none ∙ omega (arith, from_early)) in
    let from = notes_in c.before + notes_in pieces in
    let own_is : notes_in own ≡ notes_in own_pieces =
    lifted-count at f (own_of r ls i n) ∙ count-append (looks_next r ls i) _ ∙ ap (λ a. a + notes_in (shift e.taken own_pieces)) (inner-next-none r b.state ls i (inner-lead-bare k levels z s)) ∙ omega (arith, count-shift e.taken own_pieces) in
    let log_is : logged max_depth w0 no_log own_new ≡ pieces_log (block_inner c levels among name level) i m w0 =
    logged-lowered max_depth f at_new w0 no_log (own_of q ls_new i m) ∙ ap (λ a. logged a (moved at_new w0) no_log (own_of q ls_new i m)) level ∙ ap (λ a. logged (suc levels) a no_log (own_of q ls_new i m)) (moved-sum c.at d.taken w0) in
    splice-texts k edit first note (lifted_note at_new f (note_at q d.state i)) own (own ++ more_old) own_new (own_new ++ more_new) (entries_at max_depth z0 end last) (back_at max_depth z0 end last) from (notes_in own_pieces)
    was now note_new early side_old (side-by max_depth _ _ _ _ _ _ _ _ alike.entries alike.back side_new) from_is own_is
    ∙ ap (λ a. spliced from (from + notes_in own_pieces) (entries_from (token_start w0 (end_note (block_inner c levels among name level) i w0)) a.notes) (units_of (log k (text_before edit)))) log_is

pub run-splice-law : RunSpliceLaw
run-splice-law k edit top i n m past t u = own-splice k edit i n m past t u
run-splice-law k edit (block_inner c levels among name level) i n m past t u = inner-splice k levels edit c among name level i n m past t u
