-- What the records find of pieces of a run that an edit may read again.
use Rattle.std.specs.Prelude.{◌≡◌, ◌↔◌, ℕ, suc, ◌+◌, ◌-◌, ◌<◌, ◌≤◌, ◌^◌, Bool, false, List, [], ◌++◌, length, take, drop, Some, None}
use Rattle.std.specs.List.{slice_get}
use Rattle.typst_lines.specs.Place.{Place, moved}
use Rattle.typst_lines.specs.Classes.{CharClasses}
use Rattle.typst_tree.specs.Tree.{Tree, bare}
use Rattle.typst_tree.specs.Laws.{start_at}
use Rattle.typst_tokens.specs.Sight.{width, position}
use Rattle.typst_language.specs.Log.{no_log, logged}
use Rattle.typst_language.specs.Meaning.{Outcome}
use Rattle.typst_language.specs.Point.{gap_of, pending}
use Rattle.typst_language.specs.declared.calls.Note.{Note}
use Rattle.typst_language.specs.declared.calls.Block.TheVariants as block
use Rattle.typst_kinds.specs.declared.mode.SyntaxMode.{SyntaxMode}
use Rattle.typst_candidates.specs.declared.entry.Entry.{Entry}
use Rattle.typst_candidates.specs.declared.entry.EntryKind.TheVariants as entry_kind
use Rattle.typst_candidates.specs.Candidates.{Candidate}
use Rattle.typst_candidates.specs.Cursors.{closing_of, piece_of, first_piece}
use Rattle.typst_candidates.specs.Entries.{end_of, entries_by, units_of, spliced}
use Rattle.typst_candidates.specs.Records.{opening_of}
use Rattle.typst_grammar.specs.declared.part.RunKind.{RunKind}
use Rattle.typst_grammar.specs.declared.part.RunKind.TheVariants as of
use Rattle.typst_grammar.specs.Grammar.{max_depth, log, tree}
use Rattle.typst_grammar.specs.Part.{IsOver}
use Rattle.typst_grammar.specs.Pieces.{given, run_level, stops_of, first_look, pieces_on, end_on}
use Rattle.typst_edits.specs.Answer.{candidates}
use Rattle.typst_edits.specs.BlockTest.{SaysBlock, entries_in, entries_alone, front_in, rear_in}
use Rattle.typst_edits.specs.Edit.{Among}
use Rattle.typst_edits.specs.Frame.{Gives}
use Rattle.typst_edits.specs.PieceNotes.{listed}
use Rattle.typst_edits.specs.Sequence.{AllGo, asks_of}
use Rattle.typst_edits.specs.TextReplacement.{TextReplacement, text_before, text_after, start_after}

-- ---- pieces by themselves

-- how a run of one kind is read by itself
pub record Reading : Type 0 where
  pub which : RunKind
  -- how many levels are left for what is called in it
  pub levels : ℕ
  -- whether a line begins where it goes on, and how many brackets are open there
  pub carried : Bool × ℕ
  -- where it goes on
  pub place : Place

-- a run read by itself from a place
abbrev pub reading_on : RunKind → ℕ → Bool × ℕ → Place → Reading
reading_on which levels x z = record { which = which; levels = levels; carried = x; place = z }

-- the first m pieces that it reads
abbrev pub pieces_by : CharClasses → Reading → ℕ → List (Outcome (Bool × (Bool × ℕ)))
pieces_by k r m = pieces_on (run_level k r.levels r.which) (stops_of r.which) r.carried m r.place

-- what the first m pieces carry at their end
abbrev pub carried_by : CharClasses → Reading → ℕ → Bool × ℕ
carried_by k r m = (end_on (run_level k r.levels r.which) (stops_of r.which) r.carried m r.place).value

-- the byte at which the token after them begins
abbrev pub byte_after : CharClasses → Reading → ℕ → ℕ
byte_after k r m = let e = end_on (run_level k r.levels r.which) (stops_of r.which) r.carried m r.place in position (moved (e.taken + gap_of e.state.known) r.place)

-- their nodes, with the trivia after them
abbrev pub nodes_by : CharClasses → Reading → ℕ → List Tree
nodes_by k r m = given (pieces_by k r m) [] ++ pending (end_on (run_level k r.levels r.which) (stops_of r.which) r.carried m r.place).state.known

-- what is noted of them
abbrev pub notes_by : CharClasses → Reading → ℕ → List Note
notes_by k r m = listed (logged r.levels r.place no_log ((first_look (run_level k r.levels r.which) r.place).asks ++ asks_of (pieces_by k r m))).notes

-- ---- what the entries say

-- Entries say of a piece that begins at one of them whether a line begins there, and how many brackets are open.
pub record SaysPiece (es : List Entry) (number : ℕ) (x : Bool × ℕ) : Type 0 where
  pub entry : Entry
  pub is : slice_get es number ≡ Some entry
  pub kind : entry.kind ≡ entry_kind.Piece x.0
  pub count : entry.count ≡ x.1

-- no piece of the run stands after an entry
abbrev pub IsLast : List Entry → ℕ → Type 0
IsLast es number = first_piece 0 (suc number) (drop (suc number) es) ≡ None

-- a piece of a run begins at a byte, at this entry, the first of them from another one on
abbrev pub BeginsAt : List Entry → ℕ → ℕ → ℕ → Type 0
BeginsAt es first at number = piece_of at 0 (end_of 0 (take first es)) first (drop first es) ≡ Some number

-- ---- the test

-- What the entries say of a candidate that is pieces of a run: at which of them it begins and ends, and whether the run is one without an expression, which has one entry.
pub data Ends (es : List Entry) (first : ℕ) (c : Candidate) : ℕ → ℕ → Type 0 where
  some : (from to : ℕ) → BeginsAt es first c.start from → (IsLast es from → ⊥) → BeginsAt es from c.end to → from < to → Ends es first c from to
  none : (from : ℕ) → BeginsAt es first c.start from → IsLast es from → Ends es first c from from

-- From which entry on all looks have to begin after the stretch: the one after the pieces; where a content block has no expression, the one where the block ends. At the end of a text nothing is looked at.
pub data LooksFrom (es : List Entry) (which : RunKind) (from to : ℕ) : ℕ → Type 0 where
  pieces : (IsLast es from → ⊥) → LooksFrom es which from to to
  closing : (number : ℕ) → IsLast es from → which ≡ of.Block → closing_of 0 (suc from) (drop (suc from) es) ≡ Some number → LooksFrom es which from to number
  nothing : (number : ℕ) → IsLast es from → which ≡ of.Text → length es ≤ number → LooksFrom es which from to number

-- If pieces follow, there are new ones, which end with the same line start and open brackets; at a block's end they end with the same open brackets; at the text's end anyhow.
pub record Meets (es : List Entry) (which : RunKind) (to m : ℕ) (x y : Bool × ℕ) : Type 0 where
  pub goes_on : (IsLast es to → ⊥) → (0 < m) × (y ≡ x)
  pub block_end : IsLast es to → which ≡ of.Block → y.1 ≡ x.1

-- m pieces by themselves pass: the entry where the old ones begin is among those before the stretch, all looks after the old ones begin after it, and the new ones end at the shifted end and meet what is there.
pub record PassesRead (k : CharClasses) (edit : TextReplacement) (c : Candidate) (r : Reading) (from to looks : ℕ) (x : Bool × ℕ) (m : ℕ) : Type 0 where
  pub before : from < front_in k edit
  pub behind : rear_in k edit ≤ looks
  pub go : AllGo (pieces_by k r m)
  pub shifted : byte_after k r m + width edit.old ≡ c.end + width edit.new
  pub meets : Meets (entries_in k (text_before edit)) r.which to m x (carried_by k r m)

-- What is found of a candidate that is pieces of a run, whose first entry has a number: by what the entries say of it, it passes exactly where a given number of pieces do that are read by themselves, and these are its nodes.
pub record FoundRun (k : CharClasses) (edit : TextReplacement) (c : Candidate) (which : RunKind) (levels first : ℕ) : Type 0 where
  pub from : ℕ
  pub to : ℕ
  pub looks : ℕ
  pub carried : Bool × ℕ
  pub carried_end : Bool × ℕ
  pub ends : Ends (entries_in k (text_before edit)) first c from to
  pub looks_from : LooksFrom (entries_in k (text_before edit)) which from to looks
  pub says : SaysPiece (entries_in k (text_before edit)) from carried
  pub says_end : SaysPiece (entries_in k (text_before edit)) to carried_end
  -- it begins a given number of characters further on, in both texts, if its entry is among those before the stretch
  pub at : ℕ
  pub start : c.start ≡ width (take at (text_before edit))
  pub start_now : from < front_in k edit → position (moved at (start_after edit)) ≡ c.start
  pub gives : (ts : List Tree) → (let r = reading_on which levels carried (moved at (start_after edit)) in
      Gives k edit c ts ↔ ((m : ℕ) × PassesRead k edit c r from to looks carried_end m × (ts ≡ nodes_by k r m)))
  -- more pieces end at a later byte, and after the end of the run there are none
  pub rises : from < front_in k edit → (m j : ℕ) → (let r = reading_on which levels carried (moved at (start_after edit)) in
      m < j → AllGo (pieces_by k r j) → byte_after k r m < byte_after k r j)
  -- its entries are exchanged for those of the pieces; so it is in a block where there are pieces in both texts
  pub units : (m : ℕ) → (let r = reading_on which levels carried (moved at (start_after edit)) in
      PassesRead k edit c r from to looks carried_end m → (which ≡ of.Block → (IsLast (entries_in k (text_before edit)) from → ⊥) × (0 < m))
      → units_of (log k (text_after edit)) ≡ spliced from to (entries_by c.start (notes_by k r m)) (units_of (log k (text_before edit))))

-- ---- the laws

-- The law of what is found of a candidate that is pieces of a text's own run, in texts that a machine word counts.
abbrev pub RunTestLaw : Type 0
RunTestLaw = (k : CharClasses) (edit : TextReplacement) (root : Tree) (c : Candidate) → bare root ≡ bare (tree k (text_before edit))
    → Among c (candidates k edit root) → c.is_block ≡ false → c.path ≡ []
    → width (text_before edit) < 2 ^ 64 - 1 → width (text_after edit) < 2 ^ 64 - 1
    → FoundRun k edit c of.Text max_depth 0

-- What is found of a candidate that is pieces of a content block's run: its block begins at an entry, and its run at the next one. However the pieces pass, the block's entries are exchanged for those of the block by itself on the new text, too.
pub record FoundInner (k : CharClasses) (edit : TextReplacement) (root : Tree) (c : Candidate) : Type 0 where
  pub opens : ℕ
  pub is_opens : opening_of (start_at (take (length c.path - 1) c.path) 0 root) 0 0 (entries_in k (text_before edit)) ≡ Some opens
  pub to : ℕ
  pub levels : ℕ
  pub mode : SyntaxMode
  pub says : SaysBlock (entries_in k (text_before edit)) opens to levels block.Content mode
  pub some : 0 < levels
  pub run : FoundRun k edit c of.Block levels (suc opens)
  -- the block begins a given number of characters further on, in both texts
  pub at : ℕ
  pub start : start_at (take (length c.path - 1) c.path) 0 root ≡ width (take at (text_before edit))
  pub start_now : position (moved at (start_after edit)) ≡ start_at (take (length c.path - 1) c.path) 0 root
  pub units : (ts : List Tree) → Gives k edit c ts
      → units_of (log k (text_after edit)) ≡ spliced opens to (entries_alone k levels block.Content mode (moved at (start_after edit))) (units_of (log k (text_before edit)))

-- The law of what is found of a candidate that is pieces of a content block's run, in texts that a machine word counts.
abbrev pub InnerRunTestLaw : Type 0
InnerRunTestLaw = (k : CharClasses) (edit : TextReplacement) (root : Tree) (c : Candidate) → bare root ≡ bare (tree k (text_before edit))
    → Among c (candidates k edit root) → c.is_block ≡ false → (c.path ≡ [] → ⊥)
    → width (text_before edit) < 2 ^ 64 - 1 → width (text_after edit) < 2 ^ 64 - 1
    → FoundInner k edit root c

-- The law of a run's end: where a run that is read by itself ends no more pieces go on.
abbrev pub OverLaw : Type 0
OverLaw = (k : CharClasses) (r : Reading) (m j : ℕ) → IsOver k r.levels r.which r.carried r.place m → AllGo (pieces_by k r j) → j ≤ m
