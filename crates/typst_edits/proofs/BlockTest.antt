-- What the records find of a block candidate.
use Rattle.typst_edits.proofs.Cited.{◌≡◌, ◌↔◌, ℕ, zero, suc, ◌+◌, ◌-◌, ◌^◌, ◌<◌, ◌≤◌, true, false, if◌then◌else◌, max, min, List, [], ◌∷◌, ◌++◌, length, take, drop, length-append, append_assoc, Option, Some, None, refl, ap, sym, ◌∙◌, subst, arith, SyntaxMode, Place, moved, CharClasses, Tree, text_of, width, position, far, near, Block, Mark, Note, Reading, State, Ask, looked, marked, Log, no_log, logged, Outcome, start_point, point_of, moved-sum, ahead-left, Entry, EntryKind, Candidate, closing_of, count_of, entry_kind_of, entry_of, entries_by, last_start, units_of, spliced, opening_of, IsRising, closing-found, markup_reading, rules, max_depth, start_of, whole, parsed, log, block_log, entries_in, front_in, rear_in, SaysBlock, entries_alone, Among, AllEndBy, AllBeginIn, Passes, this, that, Every, Gives, of_block, of_pieces, path_of, blocks_of_text, block_at, is_opening, opened, Named, listed, notes_in, entries_from, Spot, ended, last_node, unit_at, seconds_of_text, IsOf, Stems, from_unit, from_second, place_of, lawful-block, none-some, block_end, block_alone, TextReplacement, text_before, text_after, start_before, start_after}
use Rattle.typst_edits.specs.BlockTest.{BlockTestLaw, PassesAlone, FoundBlock}
use Rattle.std.specs.List.{slice_get}
use Rattle.typst_language.specs.declared.calls.Mark.TheVariants as mark
use Rattle.typst_language.specs.declared.reading.AtNewline.TheVariants as newline
use Rattle.typst_candidates.specs.declared.entry.EntryKind.TheVariants as entry_kind
use Rattle.typst_edits.proofs.BlockModes.{mode-law}
use Rattle.typst_edits.proofs.BlockPart.{block-part-law}
use Rattle.typst_edits.proofs.BlockPlaces.{Meets, candidate-at, hole-same, meets, some-node, second-place}
use Rattle.typst_edits.proofs.RunSplice.{block-splice-law}
use Rattle.typst_edits.proofs.Bytes.{decision-law, none_yet, notes_from, logged-notes, logged-listed}
use Rattle.typst_edits.proofs.MarkupCandidates.{BlockAt}
use Rattle.typst_edits.proofs.Content.{Clear, clear-level}
use Rattle.typst_edits.proofs.Edit.{among, before-same, chosen-of}
use Rattle.typst_edits.proofs.EntryNumbers.{NoneAt, opening-some, opening-found, some-number, got-entry, past-entry, numbers-of}
use Rattle.typst_edits.proofs.Every.{some_or}
use Rattle.typst_edits.proofs.Names.{named-level}
use Rattle.typst_edits.proofs.BlockLog.{block-log}
use Rattle.typst_edits.proofs.OpensApart.{opens-apart-law, opens-directly}
use Rattle.typst_edits.proofs.Walk.{SpotPlace, spot-place, within-is}
use Rattle.typst_edits.proofs.Standing.{standing-law}
use Rattle.typst_edits.proofs.Text.{block-law}
use Rattle.typst_edits.proofs.Unnoted.{unnoted-law}
use Rattle.typst_edits.proofs.Widths.{width-append, width-moved, early-by, late-by, take-same, width-over}
use Rattle.typst_edits.proofs.InOrder.{in-order-law}

-- ---- a block's numbers

pub units-listed : (h : Log) → (units_of h).entries ≡ entries_by 0 (listed h.notes)
units-listed h = by-notes h.notes
  where
    by-notes : (o : Option (List Note)) → entries_by 0 (elim o as (λ _. List Note) [ None ↦ [] | Some ls ↦ ls ]) ≡ entries_by 0 (listed o)
    by-notes None = refl
    by-notes (Some ns) = refl

-- What the entries of a text say of a block: the numbers of its two notes, and the first block that begins at its byte.
pub record BlockEntries (k : CharClasses) (text : List ℕ) (s : Spot (Unit {0})) : Type 0 where
  pub from : ℕ
  pub to : ℕ
  pub number : notes_in s.before ≡ suc from
  pub last : to ≡ suc (from + notes_in (unit_at s (start_of text)).asks)
  pub opens : opening_of (width (take s.at text)) 0 0 (entries_in k text) ≡ Some from
  pub says : SaysBlock (entries_in k text) from to (max_depth - s.fewer) s.name s.start.held.mode

pub block-entries : (k : CharClasses) (text : List ℕ) (s : Spot (Unit {0})) → Among s (blocks_of_text k text) → BlockEntries k text s
block-entries k text s there =
    let b = block-log k text s there in
    let d = b.notes in
    let tail = d.inner ++ d.closes ∷ d.later in
    let all = d.earlier ++ d.opens ∷ tail in
    let ns : listed (log k text).notes ≡ all = ap listed d.notes in
    let entries : entries_in k text ≡ entries_by 0 all = units-listed (log k text) ∙ ap (entries_by 0) ns in
    let at = width (take s.at text) in
    let from = length d.earlier in
    let to = suc from + length d.inner in
    let alone : NoneAt at d.earlier = λ xs n ys b e f g. (let less = opens-apart-law k text xs ys tail n d.opens b s.name (ns ∙ ap (λ us. us ++ d.opens ∷ tail) e ∙ append_assoc xs (n ∷ ys) (d.opens ∷ tail)) f d.name in let start = d.start in absurd (omega (arith, less, g, start))) in
    let zero_is : 0 + from ≡ from = omega arith in
    record {
      from = from;
      to = to;
      number = d.number;
      last = omega (arith, d.long);
      opens = ap (opening_of at 0 0) entries ∙ opening-some at 0 0 d.earlier d.opens tail s.name (subst (IsRising 0) ns (in-order-law k text)) d.name d.start alone ∙ ap Some zero_is;
      says = subst (λ es. SaysBlock es from to (max_depth - s.fewer) s.name s.start.held.mode) (sym entries) (record {
        entry = entry_of (last_start 0 d.earlier) d.opens;
        is = got-entry 0 d.earlier d.opens tail;
        kind = (λ i. entry_kind_of (d.name i) (b.state i));
        count = (λ i. count_of (d.name i) (d.levels_there i));
        closes = ap (closing_of 0 (suc from)) (past-entry 0 d.earlier d.opens tail) ∙ closing-found (max_depth - s.fewer) (suc from) d.opens.start d.inner d.closes d.later d.nested d.name_end;
      });
    }

pub record Numbers (k : CharClasses) (edit : TextReplacement) (c : Candidate) (s : Spot (Unit {0})) : Type 0 where
  pub past : ℕ
  pub ends : (unit_at s (start_before edit)).taken + s.at ≡ (length edit.front + length edit.old) + past
  pub goes_on : 0 < past
  pub starts : s.at < length edit.front
  pub room : past ≤ length edit.rest
  pub end : c.end ≡ width (edit.front ++ edit.old) + width (take past edit.rest)
  pub from : ℕ
  pub to : ℕ
  pub opens : opening_of c.start 0 0 (entries_in k (text_before edit)) ≡ Some from
  pub number : notes_in s.before ≡ suc from
  pub last : to ≡ suc (from + notes_in (unit_at s (start_before edit)).asks)
  pub says : SaysBlock (entries_in k (text_before edit)) from to (max_depth - s.fewer) s.name s.start.held.mode
  pub early : from < front_in k edit ↔ AllEndBy (length edit.front) s.before
  pub late : rear_in k edit ≤ to ↔ AllBeginIn past edit.rest s.after

module _ (k : CharClasses) (edit : TextReplacement) where
  abbrev text : List ℕ
  text = text_before edit

  pub numbers : (c : Candidate) (s : Spot (Unit {0})) → width (text_before edit) < 2 ^ 64 - 1 → Among s (blocks_of_text k (text_before edit)) → SpotPlace k (text_before edit) s
      → Meets (text_before edit) c s.at (unit_at s (start_before edit)).taken → c.start < width edit.front → width (edit.front ++ edit.old) < c.end → Numbers k edit c s
  numbers c s big there place m before behind =
      let u = unit_at s (start_before edit) in
      let three = length-append edit.front edit.old in
      let same_text : (edit.front ++ edit.old) ++ edit.rest ≡ text = append_assoc edit.front edit.old edit.rest in
      let end = m.end in
      let starts : s.at < length edit.front = early-by s.at edit.front (edit.old ++ edit.rest) (omega (arith, m.start, before)) in
      let far : width (edit.front ++ edit.old) < width (take (s.at + u.taken) ((edit.front ++ edit.old) ++ edit.rest)) =
      subst (λ xs. width (edit.front ++ edit.old) < width (take (s.at + u.taken) xs)) (sym same_text) (let r : width (edit.front ++ edit.old) < width (take (s.at + u.taken) text) = omega (arith, end, behind) in r) in
      let ends_behind = late-by (s.at + u.taken) (edit.front ++ edit.old) edit.rest far in
      let past = (s.at + u.taken) - (length edit.front + length edit.old) in
      let ends : u.taken + s.at ≡ (length edit.front + length edit.old) + past = omega (arith, ends_behind, three) in
      let end_at : s.at + u.taken ≡ length (edit.front ++ edit.old) + past = omega (arith, ends_behind, three) in
      let d = decision-law k edit s past there ends in
      let e = block-entries k text s there in
      let tail = d.inner ++ d.closes ∷ d.later in
      let opens_at : d.opens.start ≡ c.start = d.start ∙ sym m.start in
      let firsts = d.earlier ++ d.opens ∷ d.inner in
      let split : d.earlier ++ d.opens ∷ tail ≡ firsts ++ d.closes ∷ d.later = sym (append_assoc d.earlier (d.opens ∷ d.inner) (d.closes ∷ d.later)) in
      let first = numbers-of k text d.earlier d.opens tail d.notes in
      let last = numbers-of k text firsts d.closes d.later (d.notes ∙ ap Some split) in
      let from_is : length d.earlier ≡ e.from = omega (arith, d.number, e.number) in
      let long : length firsts ≡ e.to = omega (arith, length-append d.earlier (d.opens ∷ d.inner), from_is, e.last, d.long) in
      let wide : width (edit.front ++ edit.old) < 2 ^ 64 - 1 = (let a = width-append edit.front (edit.old ++ edit.rest) in let b = width-append edit.old edit.rest in let e = width-append edit.front edit.old in omega (arith, a, b, e, big)) in
      record {
        past = past;
        ends = ends;
        goes_on = omega (arith, ends_behind, three);
        starts = starts;
        room = omega (arith, place.room, starts, length-append edit.front (edit.old ++ edit.rest), length-append edit.old edit.rest, three, end_at);
        end = end ∙ ap (λ j. width (take j text)) end_at ∙ ap (λ xs. width (take (length (edit.front ++ edit.old) + past) xs)) (sym same_text) ∙ width-over (edit.front ++ edit.old) past edit.rest;
        from = e.from;
        to = e.to;
        opens = ap (λ b. opening_of b 0 0 (entries_in k text)) m.start ∙ e.opens;
        number = e.number;
        last = e.last;
        says = e.says;
        early = subst (λ j. j < front_in k edit ↔ AllEndBy (length edit.front) s.before) from_is
            ((λ l. d.before (first.before (width edit.front) l)), (λ h. first.before_too (width edit.front) (omega (arith, opens_at, before)) (d.before_too h)));
        late = subst (λ j. rear_in k edit ≤ j ↔ AllBeginIn past edit.rest s.after) long
            ((λ l. d.after (last.after (width (edit.front ++ edit.old)) (omega (arith, d.end, end, behind)) l)), (λ h. last.after_too (width (edit.front ++ edit.old)) (omega (arith, d.end, end, behind)) (d.after_too wide h)));
      }

-- ---- the block by itself

pub byte-of : (at n : ℕ) (text : List ℕ) → position (moved n (moved at (start_of text))) ≡ width (take (at + n) text)
unfolding position
byte-of at n text = ap (λ (y : Place). width y.before) (sym (moved-sum at n (start_of text))) ∙ width-moved (at + n) text

pub byte-at : (at : ℕ) (text : List ℕ) → position (moved at (start_of text)) ≡ width (take at text)
unfolding position
byte-at at text = width-moved at text

-- what stays of its reading where all before it shows the same
pub record Same (o u : Outcome (Unit {0})) : Type 0 where
  pub taken : o.taken ≡ u.taken
  pub nodes : o.nodes ≡ u.nodes
  pub asks : o.asks ≡ u.asks

module _ (k : CharClasses) (edit : TextReplacement) where
  abbrev now_text : List ℕ
  now_text = text_after edit

  abbrev pub alone : Spot (Unit {0}) → Outcome (Unit {0})
  alone s = block_alone k (max_depth - s.fewer) s.name s.start.held.mode (moved s.at (start_after edit))

  pub alone-same : (s : Spot (Unit {0})) → Among s (blocks_of_text k (text_before edit)) → AllEndBy (length edit.front) s.before → Same (unit_at s (start_after edit)) (alone s)
  unfolding blocks_of_text
  alone-same s there early =
      let z = start_before edit in
      let w = start_after edit in
      let y = moved s.at w in
      let levels = max_depth - s.fewer in
      let named = among (Named (block_at k) max_depth) s _ there (named-level (rules k) k max_depth whole z (start_point markup_reading)) in
      let clear = among (Clear k z) s _ there (clear-level (rules k) k max_depth whole z (start_point markup_reading) tt) in
      let read : unit_at s w ≡ ended (block_at k levels s.name y (point_of s.start)) = ap (λ r. r y (point_of s.start)) named.reads in
      let reading : Reading = record { mode = s.start.held.mode; at_newline = newline.Continue } in
      let state : State = record { reading = reading; held = reading; empties = 0; is_after_error = false } in
      let same = mode-law k levels s.name y s.start state refl (clear.clear w (before-same s.before edit early)) in
      record {
        taken = ap (λ (o : Outcome (Unit {0})). o.taken) read ∙ same.taken;
        nodes = ap (λ (o : Outcome (Unit {0})). o.nodes) read ∙ same.nodes;
        asks = ap (λ (o : Outcome (Unit {0})). o.asks) read ∙ same.asks;
      }

  alone-room : (s : Spot (Unit {0})) → (alone s).taken ≤ max 0 (length (text_after edit) - s.at)
  alone-room s =
      let w = start_after edit in
      let y = moved s.at w in
      let inside = within-is _ _ _ ((lawful-block k s.name).within (max_depth - s.fewer) y (start_point (record { mode = s.start.held.mode; at_newline = newline.Continue }))) in
      (let r : (alone s).taken ≤ max 0 (length y.ahead) = inside in omega (arith, r, ahead-left s.at w))

  -- its entries
  pub entries-same : (s : Spot (Unit {0})) → Same (unit_at s (start_after edit)) (alone s)
      → entries_from (position (moved s.at (start_after edit))) (block_log (text_after edit) s (unit_at s (start_after edit))).notes
      ≡ entries_alone k (max_depth - s.fewer) s.name s.start.held.mode (moved s.at (start_after edit))
  entries-same s same =
      let w = start_after edit in
      let y = moved s.at w in
      let u = unit_at s w in
      let lv = max_depth - s.fewer in
      let at = position y in
      let noted = logged-notes lv y u.asks in
      let all : (logged lv y no_log u.asks).notes ≡ Some (listed (logged lv y no_log u.asks).notes) = noted ∙ ap Some (sym (ap listed noted)) in
      block-part-law (text_after edit) s u (listed (logged lv y no_log u.asks).notes) all
      ∙ (λ i. (let h = logged lv y no_log (same.asks i) in entries_by at (listed h.notes) ++ block_end (last_start at (listed h.notes)) (position (moved (same.taken i) y)) h.reach h.least ∷ []))

  -- ---- the test

  module _ (c : Candidate) (s : Spot (Unit {0})) (there : Among s (blocks_of_text k (text_before edit))) (n : Numbers k edit c s) where
    abbrev Test : Type 0
    Test = PassesAlone k edit c n.from n.to (max_depth - s.fewer) s.name s.start.held.mode s.at

    -- where the new block ends, in bytes
    now-end : position (moved (alone s).taken (moved s.at (start_after edit))) ≡ width (take (s.at + (alone s).taken) (text_after edit))
    now-end = byte-of s.at (alone s).taken (text_after edit)

    shifted-end : width (take (length (edit.front ++ edit.new) + n.past) (text_after edit)) ≡ width (edit.front ++ edit.new) + width (take n.past edit.rest)
    shifted-end = ap (λ xs. width (take (length (edit.front ++ edit.new) + n.past) xs)) (sym (append_assoc edit.front edit.new edit.rest)) ∙ width-over (edit.front ++ edit.new) n.past edit.rest

    pub test-to : Passes edit s n.past → Test
    test-to p =
        let at_end : s.at + (alone s).taken ≡ length (edit.front ++ edit.new) + n.past = omega (arith, p.shifted, (alone-same s there p.before).taken, length-append edit.front edit.new) in
        record {
          before = n.early.1 p.before;
          behind = n.late.1 p.after;
          shifted = omega (arith, now-end ∙ ap (λ m. width (take m now_text)) at_end ∙ shifted-end, n.end, width-append edit.front edit.old, width-append edit.front edit.new);
        }

    pub test-from : Test → Passes edit s n.past
    test-from t =
        let early = n.early.0 t.before in
        let end = n.end in
        let a = width-append edit.front edit.old in
        let b = width-append edit.front edit.new in
        let d = length-append edit.front (edit.new ++ edit.rest) in
        let e = length-append edit.new edit.rest in
        let f = length-append edit.front edit.new in
        let shifted = t.shifted in
        let starts = n.starts in
        let bytes : width (take (s.at + (alone s).taken) now_text) ≡ width (take (length (edit.front ++ edit.new) + n.past) now_text) = (let g = now-end in let h = shifted-end in omega (arith, g, h, shifted, end, a, b)) in
        let at_end = take-same (s.at + (alone s).taken) (length (edit.front ++ edit.new) + n.past) now_text (omega (arith, alone-room s, d, e, starts)) (omega (arith, d, e, f, n.room)) bytes in
        record { starts = n.starts; ends = n.ends; goes_on = n.goes_on; before = early; after = n.late.0 t.behind; shifted = omega (arith, at_end, (alone-same s there early).taken, f) }

-- ---- two spots where a candidate is

-- What the entries say of a block, and where it begins.
pub record Key : Type 0 where
  pub from : ℕ
  pub to : ℕ
  pub levels : ℕ
  pub name : Block
  pub mode : SyntaxMode
  pub at : ℕ

abbrev name_in : Block → EntryKind → Block
name_in b (entry_kind.Piece at_start) = b
name_in b (entry_kind.Opens c m) = c
name_in b entry_kind.Closes = b

abbrev mode_in : SyntaxMode → EntryKind → SyntaxMode
mode_in m (entry_kind.Piece at_start) = m
mode_in m (entry_kind.Opens c n) = n
mode_in m entry_kind.Closes = m

pub says-same : (es : List Entry) (at_one at_two : ℕ) (from to levels : ℕ) (b : Block) (m : SyntaxMode) (first last more : ℕ) (d : Block) (n : SyntaxMode) → SaysBlock es from to levels b m → SaysBlock es first last more d n → from ≡ first → at_one ≡ at_two
    → ◌≡◌ {A = Key} (record { from = from; to = to; levels = levels; name = b; mode = m; at = at_one }) (record { from = first; to = last; levels = more; name = d; mode = n; at = at_two })
says-same es at_one at_two from to levels b m first last more d n h k e f =
    let same : h.entry ≡ k.entry = ap (some_or h.entry) (sym h.is ∙ ap (slice_get es) e ∙ k.is) in
    let kinds = sym h.kind ∙ ap (λ (x : Entry). x.kind) same ∙ k.kind in
    let name_is : b ≡ d = ap (name_in b) kinds in
    let mode_is : m ≡ n = ap (mode_in m) kinds in
    let levels_is : levels ≡ more = sym h.count ∙ ap (λ (x : Entry). x.count) same ∙ k.count in
    let to_is : to ≡ last = some-number to last (sym h.closes ∙ ap (λ i. closing_of 0 (suc i) (drop (suc i) es)) e ∙ k.closes) in
    (λ i. record { from = e i; to = to_is i; levels = levels_is i; name = name_is i; mode = mode_is i; at = f i })

module _ (k : CharClasses) (edit : TextReplacement) (c : Candidate) where
  abbrev key_of : (s : Spot (Unit {0})) → Numbers k edit c s → Key
  key_of s n = record { from = n.from; to = n.to; levels = max_depth - s.fewer; name = s.name; mode = s.start.held.mode; at = s.at }

  -- A candidate has one.
  one-key : (s r : Spot (Unit {0})) (n : Numbers k edit c s) (m : Numbers k edit c r) → c.start ≡ width (take s.at (text_before edit)) → c.start ≡ width (take r.at (text_before edit)) → key_of s n ≡ key_of r m
  one-key s r n m e f =
      let one = length-append edit.front (edit.old ++ edit.rest) in
      let a = n.starts in
      let b = m.starts in
      says-same _ s.at r.at _ _ _ _ _ _ _ _ _ _ n.says m.says (some-number n.from m.from (sym n.opens ∙ m.opens)) (take-same s.at r.at (text_before edit) (omega (arith, a, one)) (omega (arith, b, one)) (sym e ∙ f))

  -- the test and the nodes by it
  abbrev Passing : List Tree → Key → Type 0
  Passing ts x = PassesAlone k edit c x.from x.to x.levels x.name x.mode x.at × (ts ≡ last_node (block_alone k x.levels x.name x.mode (moved x.at (start_after edit))).nodes ∷ [])

  module _ (big : width (text_before edit) < 2 ^ 64 - 1) (is : c.is_block ≡ true)
      (b : BlockAt [] 0 (width edit.front) (width (edit.front ++ edit.old)) (parsed k max_depth (text_before edit)).nodes c) where
    order : width edit.front ≤ width (edit.front ++ edit.old)
    order = let w = width-append edit.front edit.old in omega (arith, w)

    met : (s : Spot (Unit {0})) → Among s (blocks_of_text k (text_before edit)) → path_of s.hole ≡ c.path ++ c.from ∷ [] → Meets (text_before edit) c s.at (unit_at s (start_before edit)).taken × (0 < length (text_of s.node))
    met s there path = meets k (text_before edit) (width edit.front) (width (edit.front ++ edit.old)) c order b s (spot-place k (text_before edit) s there) path

    pub numbered : (s : Spot (Unit {0})) → Among s (blocks_of_text k (text_before edit)) → path_of s.hole ≡ c.path ++ c.from ∷ [] → Numbers k edit c s
    numbered s there path = numbers k edit c s big there (spot-place k (text_before edit) s there) (met s there path).0 b.starts b.ends

    -- However it passes, it does so by its key.
    gives-passing : (s : Spot (Unit {0})) (there : Among s (blocks_of_text k (text_before edit))) (path : path_of s.hole ≡ c.path ++ c.from ∷ []) (ts : List Tree) → Gives k edit c ts → Passing ts (key_of s (numbered s there path))
    gives-passing s there path ts (of_block r past block chosen where_it_is passes made) =
        let m = numbered r chosen where_it_is in
        let past_is : past ≡ m.past = omega (arith, passes.ends, m.ends) in
        let p : Passes edit r m.past = subst (Passes edit r) past_is passes in
        let by : Passing ts (key_of r m) = (test-to k edit c r chosen m p, made ∙ ap (λ us. last_node us ∷ []) (alone-same k edit r chosen p.before).nodes) in
        subst (Passing ts) (one-key r s m (numbered s there path) (met r chosen where_it_is).0.start (met s there path).0.start) by
    gives-passing s there path ts (of_pieces r i n m past t u pieces where_it_is started led end h made) = absurd (let no = sym is ∙ pieces in cc)

    pub found-by : width (text_after edit) < 2 ^ 64 - 1 → (s : Spot (Unit {0})) (there : Among s (blocks_of_text k (text_before edit))) (path : path_of s.hole ≡ c.path ++ c.from ∷ [])
        → FoundBlock k edit c (numbered s there path).from
    found-by more s there path =
        let n = numbered s there path in
        let m = met s there path in
        let place = spot-place k (text_before edit) s there in
        record {
          to = n.to;
          levels = max_depth - s.fewer;
          block = s.name;
          mode = s.start.held.mode;
          says = n.says;
          at = s.at;
          start = m.0.start;
          start_now = byte-at s.at (text_after edit) ∙ ap width (take-early s.at edit.front (edit.new ++ edit.rest) (edit.old ++ edit.rest) n.starts) ∙ sym m.0.start;
          gives = λ ts. (
            (λ g. gives-passing s there path ts g),
            (λ p. (let same = alone-same k edit s there (n.early.0 p.0.before) in
                of_block s n.past is there path (test-from k edit c s there n p.0) (p.1 ∙ ap (λ us. last_node us ∷ []) (sym same.nodes)))),
          );
          alone = λ t. (let p = test-from k edit c s there n t in
              let same = alone-same k edit s there p.before in
              let kept = block-law k edit s n.past there p in
              sym same.nodes ∙ kept.fits.nodes ∙ ap (λ us. us ++ last_node (unit_at s (start_after edit)).nodes ∷ []) (place.front m.1) ∙ ap (λ us. last_node us ∷ []) same.nodes);
          units = λ t. (let p = test-from k edit c s there n t in
              let same = alone-same k edit s there p.before in
              let spliced_is = block-splice-law k edit s n.past there p big more in
              let from_is : spliced_is.opens ≡ n.from = omega (arith, spliced_is.number, n.number) in
              let to_is : suc (spliced_is.opens + notes_in (unit_at s (start_before edit)).asks) ≡ n.to = omega (arith, from_is, n.last) in
              spliced_is.units ∙ (λ i. spliced (from_is i) (to_is i) (entries-same k edit s same i) (units_of (log k (text_before edit)))));
        }
      where
        take-early : (n : ℕ) (xs ys zs : List ℕ) → n < length xs → take n (xs ++ ys) ≡ take n (xs ++ zs)
        take-early zero xs ys zs l = refl
        take-early (suc n) [] ys zs l = absurd (omega arith)
        take-early (suc n) (x ∷ xs) ys zs l = ap (λ us. x ∷ us) (take-early n xs ys zs (omega (arith, l)))

-- ---- where a block is noted

pub record Origin (z : Place) (asks : List Ask) (n : Note) : Type 0 where
  pub ask : Ask
  pub among_all : Among ask (opened asks)
  pub before : n.before ≡ position (moved (place_of ask) z)

abbrev pub Asked : Place → List Ask → Note → Type 0
Asked z asks n = is_opening n.mark ≡ true → Origin z asks n

among-behind : {X : Type 0} (x : X) (xs ys : List X) → Among x ys → Among x (xs ++ ys)
among-behind x [] ys a = a
among-behind x (y ∷ xs) ys a = that y (xs ++ ys) (among-behind x xs ys a)

opened-first : (at gap fewer : ℕ) (m : Mark) (t : State) (asks : List Ask) → is_opening m ≡ true → Among (marked at gap fewer m t) (opened (marked at gap fewer m t ∷ asks))
opened-first at gap fewer m t asks e = subst (λ b. Among (marked at gap fewer m t) ((if b then marked at gap fewer m t ∷ [] else []) ++ opened asks)) (sym e) (this (opened asks))

asked-notes : (lv : ℕ) (z : Place) (all asks : List Ask) (reach least : ℕ) → ((ask : Ask) → Among ask (opened asks) → Among ask (opened all)) → Every (Asked z all) (notes_from lv z reach least asks)
asked-notes lv z all [] reach least more = tt
asked-notes lv z all (looked at look ∷ asks) reach least more = asked-notes lv z all asks (max reach (far look.front (moved at z))) (min least (near look.back (moved at z))) more
asked-notes lv z all (marked at gap fewer m t ∷ asks) reach least more = (
  λ o. record { ask = marked at gap fewer m t; among_all = more _ (opened-first at gap fewer m t asks o); before = refl },
  asked-notes lv z all asks 0 none_yet (λ ask a. more ask (among-behind ask (if is_opening m then marked at gap fewer m t ∷ [] else []) (opened asks) a)),
)

pub asked-of : (k : CharClasses) (text : List ℕ) → Every (Asked (start_of text) (parsed k max_depth text).asks) (listed (log k text).notes)
unfolding log
asked-of k text =
    let z = start_of text in
    let asks = (parsed k max_depth text).asks in
    subst (λ ns. Every (Asked z asks) ns) (sym (logged-listed max_depth z asks)) (asked-notes max_depth z asks asks 0 none_yet (λ ask a. a))

-- ---- the law

-- Where a block within a reading that was given up begins, no note begins one.
pub never-second : (k : CharClasses) (front more : List ℕ) (s : Spot (Unit {0})) → Among s (seconds_of_text k (front ++ more)) → (earlier : List Note) (note : Note) (later : List Note) (b : Block) → listed (log k (front ++ more)).notes ≡ earlier ++ note ∷ later
    → note.mark ≡ mark.Opens b → width (take s.at (front ++ more)) ≡ note.start → note.start < width front → ⊥
never-second k front more s there earlier note later b is m spot starts =
    let text = front ++ more in
    let asked = among (Asked (start_of text) (parsed k max_depth text).asks) note _ (chosen-of _ earlier note later is) (asked-of k text) in
    let a = asked (ap is_opening m) in
    let ask_byte : width (take (place_of a.ask) text) ≡ note.start = omega (arith, byte-at (place_of a.ask) text, a.before, opens-directly k text earlier note later b is m) in
    let one = early-by s.at front more (omega (arith, spot, starts)) in
    let two = early-by (place_of a.ask) front more (omega (arith, ask_byte, starts)) in
    let long = length-append front more in
    let meet = take-same (place_of a.ask) s.at text (omega (arith, two, long)) (omega (arith, one, long)) (ask_byte ∙ sym spot) in
    omega (arith, unnoted-law k text s a.ask there a.among_all meet, one, long)

-- So no entry does.
none-second : (k : CharClasses) (edit : TextReplacement) (c : Candidate) (b : BlockAt [] 0 (width edit.front) (width (edit.front ++ edit.old)) (parsed k max_depth (text_before edit)).nodes c) (s : Spot (Unit {0}))
    → Among s (seconds_of_text k (text_before edit)) → IsOf b.hole b.node s → (from : ℕ) → opening_of c.start 0 0 (entries_in k (text_before edit)) ≡ Some from → ⊥
none-second k edit c b s there of from opens =
    let text = text_before edit in
    let order : width edit.front ≤ width (edit.front ++ edit.old) = (let w = width-append edit.front edit.old in omega (arith, w)) in
    let same = hole-same s.hole b.hole s.node b.node of.path of.nodes in
    let some : 0 < length (text_of s.node) = subst (λ (t : Tree). 0 < length (text_of t)) (sym same.1) (some-node (width edit.front) (width (edit.front ++ edit.old)) _ c b order) in
    let o = opening-found c.start 0 0 (listed (log k text).notes) from (in-order-law k text) (sym (ap (opening_of c.start 0 0) (units-listed (log k text))) ∙ opens) in
    never-second k edit.front (edit.old ++ edit.rest) s there o.earlier o.note o.later o.block o.is o.mark (omega (arith, second-place k text s there some, ap length same.0, b.start, o.start)) (omega (arith, b.starts, o.start))

pub block-test-law : BlockTestLaw
block-test-law k edit root c same chosen is big more = (first, second)
  where
    b : BlockAt [] 0 (width edit.front) (width (edit.front ++ edit.old)) (parsed k max_depth (text_before edit)).nodes c
    b = candidate-at k (text_before edit) (width edit.front) (width (edit.front ++ edit.old)) root c same chosen is

    first : opening_of c.start 0 0 (entries_in k (text_before edit)) ≡ None → (ts : List Tree) → Gives k edit c ts → ⊥
    first none ts (of_block s past block there path passes made) = none-some _ (sym none ∙ (numbered k edit c big is b s there path).opens)
    first none ts (of_pieces r i n m past t u pieces path started led end h made) = absurd (let no = sym is ∙ pieces in cc)

    second : (from : ℕ) → opening_of c.start 0 0 (entries_in k (text_before edit)) ≡ Some from → FoundBlock k edit c from
    second from opens = by-stems (standing-law k (text_before edit) b.hole b.node b.is b.head)
      where
        by-stems : Stems k (text_before edit) b.hole b.node → FoundBlock k edit c from
        by-stems (from_unit s there of) =
            let path = of.path ∙ sym b.path_is in
            let found = found-by k edit c big is b more s there path in
            subst (FoundBlock k edit c) (some-number _ _ (sym (numbered k edit c big is b s there path).opens ∙ opens)) found
        by-stems (from_second s there of) = absurd (none-second k edit c b s there of from opens)
