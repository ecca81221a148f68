-- What the records find of a block that an edit may read again.
use Rattle.std.specs.Prelude.{◌≡◌, ◌↔◌, ℕ, suc, ◌+◌, ◌-◌, ◌<◌, ◌≤◌, ◌^◌, true, List, [], ◌∷◌, ◌++◌, take, drop, Some, None}
use Rattle.std.specs.List.{slice_get}
use Rattle.typst_kinds.specs.declared.mode.SyntaxMode.{SyntaxMode}
use Rattle.typst_lines.specs.Place.{Place, moved}
use Rattle.typst_lines.specs.Classes.{CharClasses}
use Rattle.typst_tree.specs.Tree.{Tree, bare}
use Rattle.typst_tokens.specs.Sight.{width, position}
use Rattle.typst_language.specs.declared.calls.Block.{Block}
use Rattle.typst_language.specs.Log.{no_log, logged}
use Rattle.typst_candidates.specs.declared.entry.Entry.{Entry}
use Rattle.typst_candidates.specs.declared.entry.EntryKind.TheVariants as entry_kind
use Rattle.typst_candidates.specs.Candidates.{Candidate}
use Rattle.typst_candidates.specs.Cursors.{closing_of}
use Rattle.typst_candidates.specs.Entries.{block_end, entries_by, last_start, units_of, spliced, front_of, rear_of}
use Rattle.typst_candidates.specs.Records.{opening_of}
use Rattle.typst_grammar.specs.Grammar.{log, tree}
use Rattle.typst_grammar.specs.Part.{block_alone}
use Rattle.typst_edits.specs.Answer.{candidates}
use Rattle.typst_edits.specs.Edit.{Among}
use Rattle.typst_edits.specs.Frame.{Gives}
use Rattle.typst_edits.specs.PieceNotes.{listed}
use Rattle.typst_edits.specs.Spot.{last_node}
use Rattle.typst_edits.specs.TextReplacement.{TextReplacement, text_before, text_after, start_after}

-- ---- a block by itself

-- The entries of a block that is read by itself from a place on, where a given number of levels are left and its first token is read in a mode: those of its notes, and that of its end.
abbrev pub entries_alone : CharClasses → ℕ → Block → SyntaxMode → Place → List Entry
entries_alone k levels b mode z =
    let o = block_alone k levels b mode z in
    let h = logged levels z no_log o.asks in
    let ns = listed h.notes in
    entries_by (position z) ns ++ block_end (last_start (position z) ns) (position (moved o.taken z)) h.reach h.least ∷ []

-- ---- what the entries say

-- the entries of a text's reading
abbrev pub entries_in : CharClasses → List ℕ → List Entry
entries_in k text = (units_of (log k text)).entries

-- how many of the first entries stand with all looks up to them before a stretch
abbrev pub front_in : CharClasses → TextReplacement → ℕ
front_in k edit = front_of (width edit.front) 0 (entries_in k (text_before edit))

-- from which entry on all later looks begin after the stretch
abbrev pub rear_in : CharClasses → TextReplacement → ℕ
rear_in k edit = let u = units_of (log k (text_before edit)) in rear_of (width (edit.front ++ edit.old)) 0 0 u.entries u.back

-- Entries say which block begins at one of them, in which mode its first token is read and how many levels are left in it, and at which entry it ends.
pub record SaysBlock (es : List Entry) (from to levels : ℕ) (b : Block) (mode : SyntaxMode) : Type 0 where
  pub entry : Entry
  pub is : slice_get es from ≡ Some entry
  pub kind : entry.kind ≡ entry_kind.Opens b mode
  pub count : entry.count ≡ levels
  pub closes : closing_of 0 (suc from) (drop (suc from) es) ≡ Some to

-- ---- the test

-- The block of these entries passes: its first is among those before the stretch, its last among those after which all looks begin after the stretch,
-- and by itself, on the new text, it ends at the shifted end.
pub record PassesAlone (k : CharClasses) (edit : TextReplacement) (c : Candidate) (from to levels : ℕ) (b : Block) (mode : SyntaxMode) (at : ℕ) : Type 0 where
  pub before : from < front_in k edit
  pub behind : rear_in k edit ≤ to
  pub shifted : (let z = moved at (start_after edit) in position (moved (block_alone k levels b mode z).taken z) + width edit.old ≡ c.end + width edit.new)

-- What is found of a block candidate whose block begins at an entry: by what the entries say of it, it passes exactly if its block does by itself,
-- and then that block's one node takes its place, and its entries take the place of those after the first, up to the last.
pub record FoundBlock (k : CharClasses) (edit : TextReplacement) (c : Candidate) (from : ℕ) : Type 0 where
  pub to : ℕ
  pub levels : ℕ
  pub block : Block
  pub mode : SyntaxMode
  pub says : SaysBlock (entries_in k (text_before edit)) from to levels block mode
  -- it begins a given number of characters further on, in both texts
  pub at : ℕ
  pub start : c.start ≡ width (take at (text_before edit))
  pub start_now : position (moved at (start_after edit)) ≡ c.start
  pub gives : (ts : List Tree) → Gives k edit c ts
      ↔ (PassesAlone k edit c from to levels block mode at × (ts ≡ last_node (block_alone k levels block mode (moved at (start_after edit))).nodes ∷ []))
  pub alone : PassesAlone k edit c from to levels block mode at → (let ts = (block_alone k levels block mode (moved at (start_after edit))).nodes in ts ≡ last_node ts ∷ [])
  pub units : PassesAlone k edit c from to levels block mode at
      → units_of (log k (text_after edit)) ≡ spliced from to (entries_alone k levels block mode (moved at (start_after edit))) (units_of (log k (text_before edit)))

-- The law of a block's test, in texts that a machine word counts: a block candidate where no entry begins a block doesn't pass; where one does, the records and the block by itself decide.
abbrev pub BlockTestLaw : Type 0
BlockTestLaw = (k : CharClasses) (edit : TextReplacement) (root : Tree) (c : Candidate) → bare root ≡ bare (tree k (text_before edit))
    → Among c (candidates k edit root) → c.is_block ≡ true
    → width (text_before edit) < 2 ^ 64 - 1 → width (text_after edit) < 2 ^ 64 - 1
    → (let es = entries_in k (text_before edit) in
    (opening_of c.start 0 0 es ≡ None → (ts : List Tree) → Gives k edit c ts → ⊥)
    × ((from : ℕ) → opening_of c.start 0 0 es ≡ Some from → FoundBlock k edit c from))
