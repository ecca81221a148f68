-- What code finds of a candidate that is pieces in a content block.
use Rattle.std.specs.Prelude.{◌≡◌, ◌↔◌, ℕ, suc, ◌+◌, ◌-◌, ◌<◌, ◌≤◌, ◌^◌, false, List, [], ◌∷◌, ◌++◌, length, take, Some}
use Rattle.typst_lines.specs.Place.{moved}
use Rattle.typst_lines.specs.Classes.{CharClasses}
use Rattle.typst_tree.specs.Tree.{Tree, bare}
use Rattle.typst_tokens.specs.Sight.{width, position}
use Rattle.typst_language.specs.Log.{no_log, logged}
use Rattle.typst_language.specs.declared.calls.Block.TheVariants as block
use Rattle.typst_language.specs.Meaning.{Level}
use Rattle.typst_language.specs.Point.{Trivia, gap_of}
use Rattle.typst_candidates.specs.Candidates.{Candidate}
use Rattle.typst_candidates.specs.Entries.{units_of, spliced}
use Rattle.typst_grammar.specs.declared.part.RunKind.TheVariants as of
use Rattle.typst_grammar.specs.Grammar.{max_depth, log, tree}
use Rattle.typst_grammar.specs.Pieces.{run_level, first_look}
use Rattle.typst_edits.specs.Answer.{candidates}
use Rattle.typst_edits.specs.BlockRuns.{run_at, EndsBefore}
use Rattle.typst_edits.specs.Edit.{Among}
use Rattle.typst_edits.specs.Frame.{cut_at, Gives, Run, read_as}
use Rattle.typst_edits.specs.Hole.{path_of}
use Rattle.typst_edits.specs.InnerBytes.{inner_end, inner_both}
use Rattle.typst_edits.specs.InnerJoint.{BeginsPast}
use Rattle.typst_edits.specs.Joins.{Around, PassesJoint}
use Rattle.typst_edits.specs.RunPieces.{block_run}
use Rattle.typst_edits.specs.RunSplice.{end_note, pieces_log}
use Rattle.typst_edits.specs.Laws.{blocks_of_text}
use Rattle.typst_edits.specs.OneReading.{TakesNone}
use Rattle.typst_edits.specs.PiecesTest.{GivesPieces, ReadsPieces, front_count, read_alone, rear_count}
use Rattle.typst_edits.specs.RunBytes.{PieceNote}
use Rattle.typst_edits.specs.Sequence.{first_of, first_end, then_of, AllGo, asks_of}
use Rattle.typst_edits.specs.Splice.{notes_in, token_start, entries_from}
use Rattle.typst_edits.specs.Spot.{Spot}
use Rattle.typst_edits.specs.TextReplacement.{TextReplacement, text_before, text_after, start_before, start_after}

-- ---- the entries at its ends

-- The notes where the n pieces after the first i of a block's run begin and end: their tokens begin where the pieces and what comes after them do, and their numbers among all notes decide the test of looks.
pub record InnerEntries (k : CharClasses) (levels : ℕ) (edit : TextReplacement) (s : Spot (Unit {0})) (i n past : ℕ) (t : Trivia) : Type 0 where
  pub begins : PieceNote (log k (text_before edit)) (suc levels) (text_before edit) (inner_end k levels i s (start_before edit))
  pub ends : PieceNote (log k (text_before edit)) (suc levels) (text_before edit) (inner_both k levels i n s (start_before edit))
  pub start : (let e = inner_end k levels i s (start_before edit) in 0 < i → begins.note.start ≡ width (take (e.taken + gap_of e.state.known) (text_before edit)))
  pub start_first : i ≡ 0 → begins.note.start ≡ width (take (inner_end k levels i s (start_before edit)).taken (text_before edit))
  pub end : 0 < i + n → ends.note.start ≡ width (edit.front ++ (edit.old ++ take past edit.rest))
  -- their numbers are those between which the splice of units exchanges entries
  pub number : length begins.earlier ≡ notes_in s.before + notes_in (asks_of (first_of i (run_at k levels s (start_before edit))))
  pub number_end : length ends.earlier ≡ (notes_in s.before + notes_in (asks_of (first_of i (run_at k levels s (start_before edit))))) + notes_in (asks_of (then_of i n (run_at k levels s (start_before edit))))
  -- the first is one of those that stand before the stretch with all looks exactly if the looks before the pieces end there, if the block begins before it
  pub before : length begins.earlier < front_count k (text_before edit) (width edit.front) → EndsBefore k levels edit s i
  pub before_too : s.at < length edit.front → EndsBefore k levels edit s i → length begins.earlier < front_count k (text_before edit) (width edit.front)
  -- the second is one of those from which on all looks begin after the stretch exactly if the looks after the pieces do
  pub after : 0 < i + n → rear_count k (text_before edit) (width (edit.front ++ edit.old)) ≤ length ends.earlier → BeginsPast k levels edit s i n past t
  pub after_too : 0 < i + n → BeginsPast k levels edit s i n past t → rear_count k (text_before edit) (width (edit.front ++ edit.old)) ≤ length ends.earlier

-- The law of the entries of pieces in a content block: where they go on, with the trivia after them, past the stretch, two notes by their numbers decide the test of looks, in a text that a machine word counts.
abbrev pub InnerEntriesLaw : Type 0
InnerEntriesLaw = (k : CharClasses) (levels : ℕ) (edit : TextReplacement) (s : Spot (Unit {0})) (i n past : ℕ) (t : Trivia) → Among s (blocks_of_text k (text_before edit))
    → s.name ≡ block.Content → max_depth - s.fewer ≡ suc levels → AllGo (first_of i (run_at k levels s (start_before edit))) → AllGo (then_of i n (run_at k levels s (start_before edit)))
    → (let e = inner_both k levels i n s (start_before edit) in e.state.known ≡ Some t → e.taken + t.gap ≡ (length edit.front + length edit.old) + past
    → width (edit.front ++ edit.old) < 2 ^ 64 - 1 → InnerEntries k levels edit s i n past t)

-- ---- the pieces that are read

-- how a content block's run is read by itself
abbrev pub level_in : CharClasses → ℕ → Level
level_in k levels = run_level k (suc levels) of.Block

-- The law of one end: no two numbers of pieces are read by themselves that pass.
abbrev pub InnerOnceLaw : Type 0
InnerOnceLaw = (k : CharClasses) (levels : ℕ) (edit : TextReplacement) (s : Spot (Unit {0})) (among : Among s (blocks_of_text k (text_before edit))) (name : s.name ≡ block.Content) (level : max_depth - s.fewer ≡ suc levels)
    (i n m j past : ℕ) (ts us : List Tree) → AllGo (first_of i (run_at k levels s (start_before edit))) → Around edit s
    → (0 < i → TakesNone i (run_at k levels s (start_before edit))) → EndsBefore k levels edit s i
    → ReadsPieces k edit (block_run s levels among name level) i n m past ts → ReadsPieces k edit (block_run s levels among name level) i n j past us → (m ≡ j) × (ts ≡ us)

-- ---- a candidate

-- What code finds of a candidate that stands for the n pieces after the first i of a block's run, where it reads m.
pub record InnerTest (k : CharClasses) (levels : ℕ) (edit : TextReplacement) (s : Spot (Unit {0})) (among : Among s (blocks_of_text k (text_before edit))) (name : s.name ≡ block.Content) (level : max_depth - s.fewer ≡ suc levels)
    (c : Candidate) (i n m past : ℕ) (t : Trivia) (ts : List Tree) : Type 0 where
  pub entries : InnerEntries k levels edit s i n past t
  -- where the numbers of its entries and the pieces that are read pass, it does
  pub passes : length entries.begins.earlier < front_count k (text_before edit) (width edit.front) → rear_count k (text_before edit) (width (edit.front ++ edit.old)) ≤ length entries.ends.earlier
      → ReadsPieces k edit (block_run s levels among name level) i n m past ts → Gives k edit c ts
  -- and where it passes, they do
  pub front_too : GivesPieces k edit (block_run s levels among name level) i n m past t ts → length entries.begins.earlier < front_count k (text_before edit) (width edit.front)
  pub rear_too : GivesPieces k edit (block_run s levels among name level) i n m past t ts → rear_count k (text_before edit) (width (edit.front ++ edit.old)) ≤ length entries.ends.earlier
  pub reads_too : GivesPieces k edit (block_run s levels among name level) i n m past t ts → ReadsPieces k edit (block_run s levels among name level) i n m past ts

-- The law of what code finds of pieces in a content block: for a candidate that begins and ends where some do, with at least one piece, the numbers of its entries and the pieces that are read say whether it passes, and which nodes it gives.
abbrev pub InnerTestLaw : Type 0
InnerTestLaw = (k : CharClasses) (levels : ℕ) (edit : TextReplacement) (root : Tree) (s : Spot (Unit {0})) (among : Among s (blocks_of_text k (text_before edit))) (name : s.name ≡ block.Content) (level : max_depth - s.fewer ≡ suc levels)
    (c : Candidate) (i n m past : ℕ) (t : Trivia) (ts : List Tree) → bare root ≡ bare (tree k (text_before edit)) → Among c (candidates k edit root)
    → c.is_block ≡ false → c.path ≡ path_of s.hole ++ 1 ∷ []
    → c.start ≡ width (take (cut_at (block_run s levels among name level) i (start_before edit)) (text_before edit)) → (0 < i ↔ 0 < c.from) → c.end ≡ width (edit.front ++ (edit.old ++ take past edit.rest)) → 0 < n
    → AllGo (first_of i (run_at k levels s (start_before edit))) → AllGo (then_of i n (run_at k levels s (start_before edit)))
    → (let e = inner_both k levels i n s (start_before edit) in e.state.known ≡ Some t → e.taken + t.gap ≡ (length edit.front + length edit.old) + past
    → width (edit.front ++ edit.old) < 2 ^ 64 - 1 → InnerTest k levels edit s among name level c i n m past t ts)

-- ---- the entries that are read

-- What is logged of pieces in a block after others is what is logged of them where they are read by themselves, and the token of the note before them begins there.
pub record InnerPart (k : CharClasses) (levels : ℕ) (edit : TextReplacement) (r : Run k (text_before edit)) (a i m : ℕ) : Type 0 where
  pub log_is : (let y = moved a (start_after edit) in pieces_log r i m (start_after edit)
      ≡ logged (suc levels) y no_log ((first_look (level_in k levels) y).asks ++ asks_of (read_alone (read_as r (start_after edit)) (first_end i (read_as r (start_before edit))).value m y)))
  pub token : token_start (start_after edit) (end_note r i (start_after edit)) ≡ position (moved a (start_after edit))

-- The law of a part: so it is of pieces in a content block that follow others and go on, where the looks before them end before the stretch and they take back no errors.
abbrev pub InnerPartLaw : Type 0
InnerPartLaw = (k : CharClasses) (levels : ℕ) (edit : TextReplacement) (s : Spot (Unit {0})) (among : Among s (blocks_of_text k (text_before edit))) (name : s.name ≡ block.Content) (level : max_depth - s.fewer ≡ suc levels)
    (i m : ℕ) → 0 < i → AllGo (first_of i (run_at k levels s (start_before edit))) → TakesNone i (run_at k levels s (start_before edit)) → EndsBefore k levels edit s i
    → AllGo (then_of i m (run_at k levels s (start_after edit))) → (let own = block_run s levels among name level in InnerPart k levels edit own (cut_at own i (start_before edit)) i m)

-- The law of units by numbers: where pieces after others in a content block pass the test, the entries between the two numbers are exchanged for those of the pieces that are read by themselves.
abbrev pub InnerUnitsLaw : Type 0
InnerUnitsLaw = (k : CharClasses) (levels : ℕ) (edit : TextReplacement) (s : Spot (Unit {0})) (among : Among s (blocks_of_text k (text_before edit))) (name : s.name ≡ block.Content) (level : max_depth - s.fewer ≡ suc levels)
    (i n m past : ℕ) (t u : Trivia) → 0 < i → PassesJoint k edit (block_run s levels among name level) i n m past t u → TakesNone i (run_at k levels s (start_before edit))
    → width (text_before edit) < 2 ^ 64 - 1 → width (text_after edit) < 2 ^ 64 - 1 → (e : InnerEntries k levels edit s i n past t)
    → (let y = moved (cut_at (block_run s levels among name level) i (start_before edit)) (start_after edit) in
    let part = entries_from (position y) (logged (suc levels) y no_log ((first_look (level_in k levels) y).asks ++ asks_of (read_alone (run_at k levels s (start_after edit)) (first_end i (run_at k levels s (start_before edit))).value m y))).notes in
    units_of (log k (text_after edit)) ≡ spliced (length e.begins.earlier) (length e.ends.earlier) part (units_of (log k (text_before edit))))
