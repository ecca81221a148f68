-- What code finds of a candidate that is pieces of a text's own run.
use Rattle.std.specs.Prelude.{◌≡◌, ◌↔◌, ℕ, ◌+◌, ◌-◌, ◌<◌, ◌≤◌, ◌^◌, Bool, false, List, [], ◌++◌, length, take, Some}
use Rattle.typst_lines.specs.Place.{Place, moved}
use Rattle.typst_lines.specs.Classes.{CharClasses}
use Rattle.typst_tree.specs.Tree.{Tree, bare}
use Rattle.typst_tokens.specs.Sight.{width}
use Rattle.typst_language.specs.Meaning.{Outcome}
use Rattle.typst_language.specs.Point.{Trivia, gap_of, pending}
use Rattle.typst_grammar.specs.Grammar.{max_depth, start_of, log, tree}
use Rattle.typst_grammar.specs.Pieces.{given}
use Rattle.typst_candidates.specs.Candidates.{Candidate}
use Rattle.typst_candidates.specs.Entries.{units_of, spliced, front_of, rear_of}
use Rattle.typst_edits.specs.Answer.{candidates}
use Rattle.typst_edits.specs.Edit.{Among}
use Rattle.typst_edits.specs.Frame.{Run, Gives, read_as, cut_at, end_by, is_over, nodes_now, Agrees, Before, After, PassesPieces, top}
use Rattle.typst_edits.specs.Joins.{Encloses, PassesJoint}
use Rattle.typst_edits.specs.Resumed.{fresh}
use Rattle.typst_edits.specs.NumberedNotes.{of_level, cut_after}
use Rattle.typst_edits.specs.OneReading.{TakesNone}
use Rattle.typst_edits.specs.RunPieces.{root_run}
use Rattle.typst_edits.specs.RunBytes.{PieceNote, both_end}
use Rattle.typst_edits.specs.RunSplice.{end_note, pieces_log, EndsBare}
use Rattle.typst_edits.specs.Runs.{text_run}
use Rattle.typst_edits.specs.Sequence.{Sequence, turn_of, first_of, first_end, then_of, then_end, made, AllGo, End, end_of, asks_of}
use Rattle.typst_edits.specs.Splice.{notes_in, token_start, entries_from}
use Rattle.typst_edits.specs.TextReplacement.{TextReplacement, text_before, text_after, start_before, start_after}

-- ---- the entries at its ends

-- how many of a text's first entries stand at a byte or before it with all looks up to them
abbrev pub front_count : CharClasses → List ℕ → ℕ → ℕ
front_count k text at = front_of at 0 (units_of (log k text)).entries

-- the number of the first entry of a text after which all looks begin at a byte or after it
abbrev pub rear_count : CharClasses → List ℕ → ℕ → ℕ
rear_count k text at = let u = units_of (log k text) in rear_of at 0 0 u.entries u.back

-- The notes where the n pieces after the first i of a text's run begin and end: they are of these numbers in the run, their tokens begin where the pieces and what comes after them do, and their numbers among all notes decide the test of looks.
pub record RunEntries (k : CharClasses) (edit : TextReplacement) (i n past : ℕ) (t : Trivia) : Type 0 where
  pub begins : PieceNote (log k (text_before edit)) max_depth (text_before edit) (first_end i (text_run k (start_before edit)))
  pub ends : PieceNote (log k (text_before edit)) max_depth (text_before edit) (both_end k i n edit)
  pub number : length (of_level max_depth begins.earlier) ≡ i
  pub number_end : length (of_level max_depth ends.earlier) ≡ i + n
  -- and among all notes, by those of the pieces
  pub from : length begins.earlier ≡ notes_in (asks_of (first_of i (text_run k (start_before edit))))
  pub to : length ends.earlier ≡ length begins.earlier + notes_in (asks_of (then_of i n (text_run k (start_before edit))))
  pub start : begins.note.start ≡ width (take (cut_after i (first_end i (text_run k (start_before edit)))) (text_before edit))
  pub end : 0 < i + n → ends.note.start ≡ width (edit.front ++ (edit.old ++ take past edit.rest))
  -- the first is one of those that stand before the stretch with all looks exactly if the looks before the pieces end there
  pub before : length begins.earlier < front_count k (text_before edit) (width edit.front) → Before k edit (root_run k (text_before edit)) i
  pub before_too : Before k edit (root_run k (text_before edit)) i → length begins.earlier < front_count k (text_before edit) (width edit.front)
  -- the second is one of those from which on all looks begin after the stretch exactly if the looks after the pieces do
  pub after : 0 < i + n → rear_count k (text_before edit) (width (edit.front ++ edit.old)) ≤ length ends.earlier → After k edit (root_run k (text_before edit)) i n past t
  pub after_too : 0 < i + n → After k edit (root_run k (text_before edit)) i n past t → rear_count k (text_before edit) (width (edit.front ++ edit.old)) ≤ length ends.earlier

-- The law of the entries of pieces in a text's run: where they go on, with the trivia after them, past the stretch, two notes by their numbers decide the test of looks, in a text that a machine word counts.
abbrev pub RunEntriesLaw : Type 0
RunEntriesLaw = (k : CharClasses) (edit : TextReplacement) (i n past : ℕ) (t : Trivia) → AllGo (first_of i (text_run k (start_before edit))) → AllGo (then_of i n (text_run k (start_before edit)))
    → (then_end i n (text_run k (start_before edit))).state.known ≡ Some t
    → ((first_end i (text_run k (start_before edit))).taken + (then_end i n (text_run k (start_before edit))).taken) + t.gap ≡ (length edit.front + length edit.old) + past
    → width (edit.front ++ edit.old) < 2 ^ 64 - 1 → RunEntries k edit i n past t

-- The law of cuts by themselves: of a text's run no two numbers of pieces end before tokens at one byte.
abbrev pub CutOnceLaw : Type 0
CutOnceLaw = (k : CharClasses) (text : List ℕ) (i j : ℕ) → AllGo (first_of i (text_run k (start_of text))) → AllGo (first_of j (text_run k (start_of text)))
    → (let z = start_of text in width (take (cut_after i (first_end i (text_run k z))) text) ≡ width (take (cut_after j (first_end j (text_run k z))) text)) → i ≡ j

-- ---- the pieces that are read

-- m pieces are read by themselves from a place on, with what is carried there, as a run is from its start
abbrev pub read_alone : Sequence → Bool × ℕ → ℕ → Place → List (Outcome (Bool × (Bool × ℕ)))
read_alone q x m z = made (turn_of q) m x z (fresh q.level z)

-- where they end
abbrev pub end_alone : Sequence → Bool × ℕ → ℕ → Place → End (Bool × ℕ)
end_alone q x m z = end_of x (fresh q.level z) (read_alone q x m z)

-- Where a candidate's pieces begin in both texts m pieces are read of the new one by themselves, with what is carried there; they end, with their trivia, a given number of characters past the stretch, agree with the old ones there, and these are their nodes.
pub record ReadsPieces (k : CharClasses) (edit : TextReplacement) (r : Run k (text_before edit)) (i n m past : ℕ) (ts : List Tree) : Type 0 where
  pub go : (let q = read_as r (start_before edit) in let w = start_after edit in AllGo (read_alone (read_as r w) (first_end i q).value m (moved (cut_at r i (start_before edit)) w)))
  pub ends : (let a = cut_at r i (start_before edit) in let q = read_as r (start_before edit) in let w = start_after edit in
      let e = end_alone (read_as r w) (first_end i q).value m (moved a w) in a + (e.taken + gap_of e.state.known) ≡ (length edit.front + length edit.new) + past)
  pub agrees : (let q = read_as r (start_before edit) in let w = start_after edit in
      Agrees r (is_over i n q) m (then_end i n q).value (end_alone (read_as r w) (first_end i q).value m (moved (cut_at r i (start_before edit)) w)).value)
  pub nodes : (let x = (first_end i (read_as r (start_before edit))).value in let w = start_after edit in
      let z = moved (cut_at r i (start_before edit)) w in ts ≡ given (read_alone (read_as r w) x m z) [] ++ pending (end_alone (read_as r w) x m z).state.known)

-- Pieces pass the test, and these are their nodes.
pub record GivesPieces (k : CharClasses) (edit : TextReplacement) (r : Run k (text_before edit)) (i n m past : ℕ) (t : Trivia) (ts : List Tree) : Type 0 where
  pub behind : Trivia
  pub passes : PassesPieces k edit r i n m past t behind
  pub are : ts ≡ nodes_now r i m behind (start_after edit)

-- The law of a reading of pieces: where a run's block is around the stretch, the old ones go on past it and take back no errors, and the test of looks passes, pieces that are read by themselves pass exactly if they end and agree, and their nodes are what they give.
abbrev pub ReadLaw : Type 0
ReadLaw = (k : CharClasses) (edit : TextReplacement) (r : Run k (text_before edit)) (i n m past : ℕ) (t : Trivia) (ts : List Tree) → (let q = read_as r (start_before edit) in AllGo (first_of i q) → AllGo (then_of i n q)
    → (then_end i n q).state.known ≡ Some t → end_by r i n t (start_before edit) ≡ (length edit.front + length edit.old) + past
    → Encloses k edit r → (0 < i → TakesNone i q) → Before k edit r i → After k edit r i n past t
    → ReadsPieces k edit r i n m past ts ↔ GivesPieces k edit r i n m past t ts)

-- ---- a candidate of the run

-- A candidate is pieces of the run that pass the test and take back no errors before them, and these are their nodes.
pub record RunGives (k : CharClasses) (edit : TextReplacement) (c : Candidate) (ts : List Tree) : Type 0 where
  pub i : ℕ
  pub n : ℕ
  pub m : ℕ
  pub past : ℕ
  pub t : Trivia
  pub start : c.start ≡ width (take (cut_at (root_run k (text_before edit)) i (start_before edit)) (text_before edit))
  pub led : 0 < i ↔ 0 < c.from
  pub end : c.end ≡ width (edit.front ++ (edit.old ++ take past edit.rest))
  pub none : 0 < i → TakesNone i (text_run k (start_before edit))
  pub gives : GivesPieces k edit (root_run k (text_before edit)) i n m past t ts

-- The law of candidates of a text's run: one that is pieces at the root passes exactly if such pieces do.
abbrev pub RunGivesLaw : Type 0
RunGivesLaw = (k : CharClasses) (edit : TextReplacement) (root : Tree) (c : Candidate) (ts : List Tree) → bare root ≡ bare (tree k (text_before edit))
    → Among c (candidates k edit root) → c.is_block ≡ false → c.path ≡ []
    → Gives k edit c ts ↔ RunGives k edit c ts

-- ---- the units

-- The law of the units: where an edit inside some pieces passes the test, the entries between the two numbers of theirs are exchanged for those of the new pieces.
abbrev pub RunPartLaw : Type 0
RunPartLaw = (k : CharClasses) (edit : TextReplacement) (i n m past : ℕ) (t u : Trivia) → PassesJoint k edit top i n m past t u
    → (let own = root_run k (text_before edit) in (i + n ≡ 0 → EndsBare own i n t (start_before edit)) → (i + m ≡ 0 → EndsBare own i n u (start_before edit))
    → width (text_before edit) < 2 ^ 64 - 1 → width (text_after edit) < 2 ^ 64 - 1 → (e : RunEntries k edit i n past t)
    → (let w = start_after edit in
    units_of (log k (text_after edit)) ≡ spliced (length e.begins.earlier) (length e.ends.earlier) (entries_from (token_start w (end_note own i w)) (pieces_log own i m w).notes) (units_of (log k (text_before edit)))))
