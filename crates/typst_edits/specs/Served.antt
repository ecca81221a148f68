-- One reading of the new text serves the larger candidates of a run.
use Rattle.std.specs.Prelude.{◌≡◌, ◌⊎◌, ℕ, suc, ◌+◌, ◌-◌, ◌<◌, ◌≤◌, ◌^◌, Bool, false, List, [], ◌++◌, length, take, Some}
use Rattle.typst_lines.specs.Place.{moved}
use Rattle.typst_lines.specs.Classes.{CharClasses}
use Rattle.typst_tree.specs.Tree.{Tree, bare}
use Rattle.typst_tree.specs.Laws.{start_at}
use Rattle.typst_tree.specs.Replace.{replaced_at}
use Rattle.typst_tokens.specs.Sight.{width}
use Rattle.typst_language.specs.declared.calls.Block.TheVariants as block
use Rattle.typst_kinds.specs.declared.mode.SyntaxMode.{SyntaxMode}
use Rattle.typst_candidates.specs.declared.entry.Entry.{Entry}
use Rattle.typst_candidates.specs.Candidates.{Candidate}
use Rattle.typst_candidates.specs.Entries.{entries_by, units_of, spliced}
use Rattle.typst_candidates.specs.Records.{opening_of}
use Rattle.typst_grammar.specs.declared.part.RunKind.{RunKind}
use Rattle.typst_grammar.specs.declared.part.RunKind.TheVariants as of
use Rattle.typst_grammar.specs.Grammar.{max_depth, log, tree}
use Rattle.typst_edits.specs.Answer.{candidates}
use Rattle.typst_edits.specs.BlockTest.{SaysBlock, entries_in, front_in, rear_in}
use Rattle.typst_edits.specs.Edit.{Among}
use Rattle.typst_edits.specs.Frame.{Gives}
use Rattle.typst_edits.specs.RunTest.{Reading, reading_on, pieces_by, carried_by, byte_after, nodes_by, notes_by, IsLast, FoundRun}
use Rattle.typst_edits.specs.Sequence.{AllGo}
use Rattle.typst_edits.specs.TextReplacement.{TextReplacement, text_before, text_after, start_after}

-- If pieces follow, the pieces that go on after old ones, at least one with these, end with the same line start and open brackets; at a block's end with the same open brackets.
pub record MeetsOn (es : List Entry) (which : RunKind) (to : ℕ) (led : Type 0) (m : ℕ) (x y : Bool × ℕ) : Type 0 where
  pub goes_on : (IsLast es to → ⊥) → (led ⊎ (0 < m)) × (y ≡ x)
  pub block_end : IsLast es to → which ≡ of.Block → y.1 ≡ x.1

-- m pieces of a reading that begins where the candidate does, or after old pieces of it, pass for it: all looks after the candidate's old pieces begin after the stretch, and the new ones end at the shifted end and meet what is there.
pub record PassesOn (k : CharClasses) (edit : TextReplacement) (first c : Candidate) (r : Reading) (to looks : ℕ) (x : Bool × ℕ) (m : ℕ) : Type 0 where
  pub behind : rear_in k edit ≤ looks
  pub go : AllGo (pieces_by k r m)
  pub shifted : byte_after k r m + width edit.old ≡ c.end + width edit.new
  pub meets : MeetsOn (entries_in k (text_before edit)) r.which to (c.start < first.start) m x (carried_by k r m)

-- the reading of the new text that begins where what is found of a candidate says
abbrev pub reading_of : {k : CharClasses} {edit : TextReplacement} {c : Candidate} {which : RunKind} {levels first : ℕ} → FoundRun k edit c which levels first → Reading
reading_of {k} {edit} {c} {which} {levels} {first} f = reading_on which levels f.carried (moved f.at (start_after edit))

-- The reading that begins with one candidate serves another one of its run, which begins there or earlier: this passes exactly where a given number of pieces of the reading do, and then its nodes are in a numbered tree those of the reading, put where the reading begins, and the entries from there on are exchanged.
pub record Served (k : CharClasses) (edit : TextReplacement) (root : Tree) (which : RunKind) (levels entry : ℕ) (first c : Candidate)
    (f : FoundRun k edit first which levels entry) (g : FoundRun k edit c which levels entry) : Type 0 where
  -- what is looked at before the candidate ends before the stretch, too
  pub earlier : g.from ≤ f.from
  -- and the reading begins where the candidate ends or before it
  pub until : f.from ≤ g.to
  pub order : first.from ≤ c.to
  pub gives : (ts : List Tree) → Gives k edit c ts
      → ((m : ℕ) × PassesOn k edit first c (reading_of f) g.to g.looks g.carried_end m × (replaced_at c.path c.from c.to ts root ≡ replaced_at c.path first.from c.to (nodes_by k (reading_of f) m) root))
  pub gives_too : (m : ℕ) → PassesOn k edit first c (reading_of f) g.to g.looks g.carried_end m
      → ((ts : List Tree) × Gives k edit c ts × (replaced_at c.path c.from c.to ts root ≡ replaced_at c.path first.from c.to (nodes_by k (reading_of f) m) root))
  -- so it is in a block where there are pieces in both texts
  pub units : (m : ℕ) → PassesOn k edit first c (reading_of f) g.to g.looks g.carried_end m
      → (which ≡ of.Block → (IsLast (entries_in k (text_before edit)) g.from → ⊥) × ((c.start < first.start) ⊎ (0 < m)))
      → units_of (log k (text_after edit)) ≡ spliced f.from g.to (entries_by first.start (notes_by k (reading_of f) m)) (units_of (log k (text_before edit)))

-- Candidates of a path are pieces of a run which is read so and whose first entry has this number: of the text's own, or of the content block that begins where the node above theirs does.
pub data RunOf (es : List Entry) (root : Tree) (path : List ℕ) : RunKind → ℕ → ℕ → Type 0 where
  own : path ≡ [] → RunOf es root path of.Text max_depth 0
  inner : (opens to levels : ℕ) (mode : SyntaxMode) → (path ≡ [] → ⊥) → opening_of (start_at (take (length path - 1) path) 0 root) 0 0 es ≡ Some opens → SaysBlock es opens to levels block.Content mode → RunOf es root path of.Block levels (suc opens)

-- The law of a reading that serves: where the looks before a candidate of a run end before the stretch, the reading that begins with it serves each candidate of the run that begins there or earlier, in texts that a machine word counts.
abbrev pub ServedLaw : Type 0
ServedLaw = (k : CharClasses) (edit : TextReplacement) (root : Tree) (which : RunKind) (levels entry : ℕ) (first c : Candidate) → bare root ≡ bare (tree k (text_before edit))
    → Among first (candidates k edit root) → Among c (candidates k edit root)
    → first.is_block ≡ false → c.is_block ≡ false → first.path ≡ c.path → c.start ≤ first.start
    → width (text_before edit) < 2 ^ 64 - 1 → width (text_after edit) < 2 ^ 64 - 1
    → RunOf (entries_in k (text_before edit)) root c.path which levels entry
    → (f : FoundRun k edit first which levels entry) (g : FoundRun k edit c which levels entry)
    → f.from < front_in k edit → Served k edit root which levels entry first c f g
