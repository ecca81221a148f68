-- Whether a candidate passes, and what takes its place.
use Rattle.std.specs.Prelude.{◌≡◌, ℕ, ◌+◌, ◌<◌, ◌≤◌, List, length, Option, Some, None}
use Rattle.std.specs.Str.{IsUtf8}
use Rattle.typst_lines.specs.Classes.{CharClasses}
use Rattle.typst_tokens.specs.Sight.{width}
use Rattle.typst_tree.specs.Tree.{Tree}
use Rattle.typst_tree.specs.Replace.{replaced_at}
use Rattle.typst_candidates.specs.declared.candidate.Candidate as found
use Rattle.typst_candidates.specs.Candidates.{Candidate}
use Rattle.typst_candidates.specs.Entries.{Units, units_of, spliced}
use Rattle.typst_edits.specs.BlockTest.{front_in, rear_in, entries_in}
use Rattle.typst_edits.specs.Edit.{Among}
use Rattle.typst_edits.specs.Frame.{Gives}
use Rattle.typst_edits.specs.Grammar.{log}
use Rattle.typst_parser.specs.TextReplacement.{TextReplacement, text_before, text_after, Makes, Holds, candidates}
use Rattle.typst_parser.specs.declared.attempt.Asked.{Asked}
use Rattle.typst_parser.specs.declared.attempt.Attempt.{Attempt}
use Rattle.typst_parser.specs.declared.attempt.ReparsedPart.{ReparsedPart}

-- A candidate of the code, whose children are those of the node at the end of a path.
abbrev pub at_path : List ℕ → found.Candidate → Candidate
at_path path c = record { is_block = c.is_block; path = path; from = c.from; to = c.to; start = c.start; end = c.end }

-- What is asked of candidates is of this change: of its new text, and of the two numbers that
-- decide the test of looks, by a tree and its units.
pub record Speaks {C : Type 0} (k : CharClasses) (c : TextReplacement) (q : Asked C) (root : Tree) (units : Units) : Type 0 where
  pub text : IsUtf8 q.new.now
  pub makes : Makes c q.new.now q.edit
  pub holds : Holds k c root units
  pub front : q.front ≡ front_in k c
  pub rear : q.rear ≡ rear_in k c

-- An edit's attempt holds the old text's tree and units.
abbrev pub IsReady : {C : Type 0} → CharClasses → TextReplacement → Attempt C → Type 0
IsReady {C} k c a = Speaks k c a.asked.now a.root.now a.records.now.units

-- A part takes a candidate's place: put from its first child on, its nodes do what the candidate's
-- do; it ends at the shifted end, and with its entries in place of the old ones the units are those
-- of the new text.
pub record IsPart (k : CharClasses) (c : TextReplacement) (root : Tree) (d : Candidate) (p : ReparsedPart) : Type 0 where
  pub nodes : List Tree
  pub gives : Gives k c d nodes
  pub puts : replaced_at d.path d.from d.to nodes root ≡ replaced_at d.path p.first_child d.to p.nodes.items root
  pub first : p.first_child ≤ d.to
  pub end : p.end + width c.old ≡ d.end + width c.new
  pub order : p.from_entry ≤ p.to_entry
  pub within : p.to_entry < length (entries_in k (text_before c))
  pub units : units_of (log k (text_after c)) ≡ spliced p.from_entry p.to_entry p.entries.units.entries (units_of (log k (text_before c)))

-- A candidate doesn't pass: no nodes meet its test.
abbrev pub Fails : CharClasses → TextReplacement → Candidate → Type 0
Fails k c d = (ts : List Tree) → Gives k c d ts → ⊥

-- It was decided whether a candidate passes: a part takes its place, or it doesn't pass.
abbrev pub Decides : CharClasses → TextReplacement → Tree → Candidate → Option ReparsedPart → Type 0
Decides k c root d (Some p) = IsPart k c root d p
Decides k c root d None = Fails k c d

-- A candidate of an edit that is ready.
pub record CanTry {C : Type 0} (k : CharClasses) (a : Attempt C) (d : Candidate) : Type 0 where
  pub change : TextReplacement
  pub ready : IsReady k change a
  pub among : Among d (candidates k change a.root.now)
