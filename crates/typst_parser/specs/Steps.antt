-- What an attempt finds step by step (for private clauses).
use Rattle.std.specs.Prelude.{◌≡◌, ◌↔◌, ◌⊎◌, ℕ, suc, ◌+◌, ◌-◌, ◌<◌, ◌≤◌, ◌^◌, Bool, true, false, List, [], ◌∷◌, ◌++◌, length, take, Option, Some, None}
use Rattle.typst_kinds.specs.declared.mode.SyntaxMode.{SyntaxMode}
use Rattle.typst_lines.specs.Classes.{CharClasses}
use Rattle.typst_lines.specs.Place.{Place, moved}
use Rattle.typst_tokens.specs.Sight.{width}
use Rattle.typst_tree.specs.Tree.{Tree}
use Rattle.typst_tree.specs.Laws.{start_at}
use Rattle.typst_edits.specs.Block.{Block}
use Rattle.typst_edits.specs.Block.TheVariants as block
use Rattle.typst_candidates.specs.declared.candidate.Candidate as code
use Rattle.typst_candidates.specs.declared.entry.Entry.{Entry}
use Rattle.typst_candidates.specs.Candidates.{Candidate}
use Rattle.typst_candidates.specs.Cursors as cursors
use Rattle.typst_candidates.specs.Entries.{block_end, entries_by, last_start}
use Rattle.typst_edits.specs.ReadPart.{ReadPart}
use Rattle.typst_edits.specs.PieceReader.{PieceReader}
use Rattle.typst_edits.specs.RunKind.{RunKind}
use Rattle.typst_edits.specs.RunKind.TheVariants as of
use Rattle.typst_edits.specs.Part.{ArePieces, HasRead, IsBlock, IsOver}
use Rattle.typst_edits.specs.Pieces.{AllGo}
use Rattle.typst_edits.specs.BlockTest.{entries_in, front_in}
use Rattle.typst_edits.specs.Edit.{Among}
use Rattle.typst_edits.specs.TextReplacement.{start_after}
use Rattle.typst_edits.specs.RunTest.{FoundInner, FoundRun, Reading, byte_after, carried_by, pieces_by}
use Rattle.typst_edits.specs.Served.{MeetsOn, PassesOn, RunOf, Served, reading_of}
use Rattle.typst_parser.specs.Attempt.{Fails, IsReady, at_path}
use Rattle.typst_parser.specs.TextReplacement.{TextReplacement, candidates, text_before}
use Rattle.typst_parser.specs.declared.attempt.Attempt.{Attempt}
use Rattle.typst_parser.specs.declared.attempt.Bounds.{Bounds}
use Rattle.typst_parser.specs.declared.attempt.ReparsedPart.{ReparsedPart}
use Rattle.typst_parser.specs.declared.attempt.Passing.{Passing}
use Rattle.typst_parser.specs.declared.attempt.Run.{Run}
use Rattle.typst_parser.specs.declared.attempt.Serving.{Serving}

-- ---- blocks

-- A block was read by itself.
abbrev pub IsReadBlock : CharClasses → ℕ → Block → SyntaxMode → Place → Option ReadPart → Type 0
IsReadBlock k levels b read_as z None = ⊥
IsReadBlock k levels b read_as z (Some p) = IsBlock k levels b read_as z p

-- the entries of a block that was read by itself, which begins at a byte
abbrev pub entries_of : ℕ → ReadPart → List Entry
entries_of start p = entries_by start p.notes.items ++ block_end (last_start start p.notes.items) p.end p.hull.reach p.hull.least ∷ []

-- ---- pieces

-- the place before the entry of a number
abbrev pub place_before : List Entry → ℕ → cursors.EntryPlace
place_before es number = record { entries = es; number = number }

-- Pieces begin and end at these entries, and looks have to begin after the stretch from this entry
-- on, or if there is no such entry, from none on.
abbrev pub AreBounds : List Entry → ℕ → ℕ → ℕ → Option Bounds → Type 0
AreBounds es from to looks None = ⊥
AreBounds es from to looks (Some b) = (b.from ≡ place_before es from) × (b.to ≡ place_before es to) × ((b.looks ≡ looks) ⊎ ((b.looks ≡ length es) × (length es ≤ looks)))

-- A given number of pieces were read, and fewer of them end before a byte.
pub record HasReadSome (k : CharClasses) (r : Reading) (end : ℕ) (any : Bool) (p : PieceReader) : Type 0 where
  pub count : ℕ
  pub read : HasRead k r.levels r.which r.carried r.place count p
  pub some : any ≡ true ↔ 0 < count
  pub before : (j : ℕ) → j < count → byte_after k r j < end

-- Pieces were read that end at a byte or after it, or up to the end of their run.
pub record HasReadTo (k : CharClasses) (r : Reading) (end : ℕ) (any : Bool) (p : PieceReader) : Type 0 where
  pub has : HasReadSome k r end any p
  pub stopped : (end ≤ byte_after k r has.count) ⊎ IsOver k r.levels r.which r.carried r.place has.count

-- More pieces end at a later byte, no pieces come after the run's end, and each ends at a byte of
-- the machine.
pub record Grows (k : CharClasses) (r : Reading) : Type 0 where
  pub rises : (m j : ℕ) → m < j → AllGo (pieces_by k r j) → byte_after k r m < byte_after k r j
  pub over : (m j : ℕ) → IsOver k r.levels r.which r.carried r.place m → AllGo (pieces_by k r j) → j ≤ m
  pub fits : (m : ℕ) → byte_after k r m < 2 ^ 64

-- A given number of pieces, after old ones or not, end where those do that ended at the byte `end` before the
-- bytes `old` became the bytes `new`, and meet what is there.
pub record Fit (k : CharClasses) (es : List Entry) (r : Reading) (old new end to : ℕ) (led : Type 0) (y : Bool × ℕ) (m : ℕ) : Type 0 where
  pub go : AllGo (pieces_by k r m)
  pub shifted : byte_after k r m + old ≡ end + new
  pub meets : MeetsOn es r.which to led m y (carried_by k r m)

-- ---- a reading that serves a run

-- A reading serves a run: it began with a candidate of the edit at the run's path, before which all
-- looks end before the stretch, and has read a given number of pieces.
pub record Serves (k : CharClasses) (c : TextReplacement) (root : Tree) (path : List ℕ) (depth : ℕ) (which : RunKind) (levels entry : ℕ) (s : Serving) : Type 0 where
  pub depth_is : s.first_candidate.depth ≡ depth
  pub pieces : s.first_candidate.is_block ≡ false
  pub among : Among (at_path path s.first_candidate) (candidates k c root)
  pub found : FoundRun k c (at_path path s.first_candidate) which levels entry
  pub from : s.first_entry ≡ found.from
  pub before : found.from < front_in k c
  pub count : ℕ
  pub read : HasRead k levels which found.carried (moved found.at (start_after c)) count s.reader
  pub some : s.any ≡ true ↔ 0 < count
  -- fewer pieces end before the end of the last candidate that it went on for
  pub less : (j : ℕ) → j < count → byte_after k (reading_of found) j + width c.old < s.last + width c.new

-- A reading serves the run of the candidates at a path.
pub record ServesRun (k : CharClasses) (c : TextReplacement) (root : Tree) (path : List ℕ) (depth : ℕ) (s : Serving) : Type 0 where
  pub which : RunKind
  pub levels : ℕ
  pub entry : ℕ
  pub run : RunOf (entries_in k (text_before c)) root path which levels entry
  pub serves : Serves k c root path depth which levels entry s

-- A reading serves the run of the candidates at a path, or there is no reading.
abbrev pub ServesOr : CharClasses → TextReplacement → Tree → List ℕ → ℕ → Option Serving → Type 0
ServesOr k c root path depth None = Unit {0}
ServesOr k c root path depth (Some s) = ServesRun k c root path depth s

-- A reading can go on for a candidate: one as deep, which begins where it began or earlier, and
-- ends where the last one did or later.
pub record GoesOn (d : code.Candidate) (s : Serving) : Type 0 where
  pub depth : s.first_candidate.depth ≡ d.depth
  pub start : d.start ≤ s.first_candidate.start
  pub end : s.last ≤ d.end

-- A reading serves the run of a candidate and can go on for it, or there is no reading.
abbrev pub ServesFor : CharClasses → TextReplacement → Tree → List ℕ → code.Candidate → Option Serving → Type 0
ServesFor k c root path d None = Unit {0}
ServesFor k c root path d (Some s) = ServesRun k c root path d.depth s × GoesOn d s

-- The candidate is one of an edit that is ready, and a reading serves it.
pub record CanServe {C : Type 0} (k : CharClasses) (a : Attempt C) (path : List ℕ) (d : code.Candidate) (s : Option Serving) : Type 0 where
  pub change : TextReplacement
  pub ready : IsReady k change a
  pub among : Among (at_path path d) (candidates k change a.root.now)
  pub serves : ServesFor k change a.root.now path d s

-- ---- a run

-- A candidate is pieces of a run: what is found of it is known, and a reading serves it.
pub record Reads {C : Type 0} (k : CharClasses) (c : TextReplacement) (a : Attempt C) (path : List ℕ) (d : code.Candidate) (r : Run) (s : Option Serving) : Type 0 where
  pub ready : IsReady k c a
  pub among : Among (at_path path d) (candidates k c a.root.now)
  pub pieces : d.is_block ≡ false
  pub run : RunOf (entries_in k (text_before c)) a.root.now path r.kind r.levels r.first_entry
  pub some : 0 < r.levels
  pub found : FoundRun k c (at_path path d) r.kind r.levels r.first_entry
  pub serves : ServesFor k c a.root.now path d s

-- A candidate begins at this place, before which all looks end before the stretch.
pub record BeginsThere (k : CharClasses) (c : TextReplacement) (path : List ℕ) (d : code.Candidate) (r : Run) (f : FoundRun k c (at_path path d) r.kind r.levels r.first_entry) (at : cursors.EntryPlace) : Type 0 where
  pub is : at ≡ place_before (entries_in k (text_before c)) f.from
  pub before : f.from < front_in k c

-- A reading begins with a candidate, at an entry.
abbrev pub Begins : CharClasses → Reading → code.Candidate → ℕ → Option Serving → Type 0
Begins k r d from None = ⊥
Begins k r d from (Some s) = HasRead k r.levels r.which r.carried r.place 0 s.reader × (s.any ≡ false) × (s.first_candidate ≡ d) × (s.first_entry ≡ from) × (s.last ≡ d.end)

-- A reading serves a candidate's run, and can go on for it.
abbrev pub ServesNow : CharClasses → TextReplacement → Tree → List ℕ → code.Candidate → Run → Option Serving → Type 0
ServesNow k c root path d r None = ⊥
ServesNow k c root path d r (Some s) = Serves k c root path d.depth r.kind r.levels r.first_entry s × GoesOn d s

-- Pieces were read that pass for a candidate.
pub record IsPassing (k : CharClasses) (c : TextReplacement) (root : Tree) (path : List ℕ) (d : code.Candidate) (run : Run) (f : FoundRun k c (at_path path d) run.kind run.levels run.first_entry) (p : Passing) : Type 0 where
  pub from : p.bounds.from ≡ place_before (entries_in k (text_before c)) f.from
  pub to : p.bounds.to ≡ place_before (entries_in k (text_before c)) f.to
  -- their reading began with this candidate
  pub begun : FoundRun k c (at_path path p.first_candidate) run.kind run.levels run.first_entry
  pub entry : p.first_entry ≡ begun.from
  pub before : begun.from < front_in k c
  pub served : Served k c root run.kind run.levels run.first_entry (at_path path p.first_candidate) (at_path path d) begun f
  pub count : ℕ
  pub passes : PassesOn k c (at_path path p.first_candidate) (at_path path d) (reading_of begun) f.to f.looks f.carried_end count
  pub some : p.any ≡ true ↔ ((d.start < p.first_candidate.start) ⊎ (0 < count))
  pub read : ArePieces k run.levels run.kind begun.carried (moved begun.at (start_after c)) count p.pieces

-- It was decided of a candidate: pieces were read that pass, or it doesn't pass.
abbrev pub Settles : (k : CharClasses) (c : TextReplacement) (root : Tree) (path : List ℕ) (d : code.Candidate) (run : Run) → FoundRun k c (at_path path d) run.kind run.levels run.first_entry → Option Passing → Type 0
Settles k c root path d run f None = Fails k c (at_path path d)
Settles k c root path d run f (Some p) = IsPassing k c root path d run f p

-- ---- a block's run

-- A run is that of the content block above a candidate.
pub record IsRunOf (k : CharClasses) (c : TextReplacement) (root : Tree) (d : Candidate) (f : FoundInner k c root d) (run : Run) : Type 0 where
  pub kind : run.kind ≡ of.Block
  pub at : run.at ≡ start_at (take (length d.path - 1) d.path) 0 root
  pub levels : run.levels ≡ f.levels
  pub first : run.first_entry ≡ suc f.opens

-- A candidate is pieces of a content block's run: what is found of it is known, and a reading
-- serves it.
pub record ReadsInner {C : Type 0} (k : CharClasses) (c : TextReplacement) (a : Attempt C) (path : List ℕ) (d : code.Candidate) (run : Run) (s : Option Serving) : Type 0 where
  pub ready : IsReady k c a
  pub among : Among (at_path path d) (candidates k c a.root.now)
  pub pieces : d.is_block ≡ false
  pub below : path ≡ [] → ⊥
  pub found : FoundInner k c a.root.now (at_path path d)
  pub is : IsRunOf k c a.root.now (at_path path d) found run
  pub serves : ServesFor k c a.root.now path d s

-- A part has the nodes of pieces, which are put from a child on, and the entries of a block that
-- was read by itself from a byte on, which take the place of those after one up to another.
pub record IsWithBlock (k : CharClasses) (z : Place) (at levels : ℕ) (mode : SyntaxMode) (from to first : ℕ) (p : ReadPart) (part : ReparsedPart) : Type 0 where
  pub nodes : part.nodes ≡ p.nodes
  pub first_is : part.first_child ≡ first
  pub end : part.end ≡ p.end
  pub from_is : part.from_entry ≡ from
  pub to_is : part.to_entry ≡ to
  pub read : ReadPart
  pub is_read : IsBlock k levels block.Content mode z read
  pub entries : part.entries.units.entries ≡ entries_of at read

-- The part of pieces with the entries of their block was made.
abbrev pub HasBlock : CharClasses → Place → ℕ → ℕ → SyntaxMode → ℕ → ℕ → ℕ → ReadPart → Option ReparsedPart → Type 0
HasBlock k z at levels read_as from to first p None = ⊥
HasBlock k z at levels read_as from to first p (Some part) = IsWithBlock k z at levels read_as from to first p part
