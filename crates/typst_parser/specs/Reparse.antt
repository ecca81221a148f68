-- What an edit answers for which a part of the new text is read.
use Rattle.std.specs.Prelude.{◌≡◌, ℕ, ◌+◌, Bool, true, false, List, [], ◌∷◌, length, map, take, Option, Some, None}
use Rattle.std.specs.declared.ops.Range.{Range}
use Rattle.typst_lines.specs.Classes.{CharClasses}
use Rattle.typst_tokens.specs.Sight.{width}
use Rattle.typst_tree.specs.Tree.{Tree, bare}
use Rattle.typst_tree.specs.Replace.{replaced_at}
use Rattle.typst_candidates.specs.declared.candidate.Candidate as code
use Rattle.typst_candidates.specs.declared.candidate.Candidates.{Candidates}
use Rattle.typst_candidates.specs.Candidates.{Candidate}
use Rattle.typst_candidates.specs.Entries.{Units, spliced, units_of}
use Rattle.typst_candidates.specs.Edges.{IsRootEdge, LeadsBy, spelled}
use Rattle.typst_edits.specs.Answer.{IsAnswer, Refused}
use Rattle.typst_edits.specs.Edit.{Among}
use Rattle.typst_edits.specs.Every.{Every}
use Rattle.typst_edits.specs.Frame.{Gives}
use Rattle.typst_edits.specs.Grammar.{tree, log}
use Rattle.typst_parser.specs.Attempt.{Speaks, at_path}
use Rattle.typst_parser.specs.TextReplacement.{TextReplacement, text_after, candidates}
use Rattle.typst_parser.specs.Steps.{ServesFor}
use Rattle.typst_parser.specs.declared.attempt.Asked.{Asked}
use Rattle.typst_parser.specs.declared.attempt.ReparsedPart.{ReparsedPart}
use Rattle.typst_parser.specs.declared.attempt.Serving.{Serving}
use Rattle.typst_parser.specs.declared.edited.Reread.{Reread}

-- The first candidate that passes and whose nodes find numbers was put in its place, in the tree
-- and in the units; the tree is that of the new text, spans aside.
pub record Takes (k : CharClasses) (c : TextReplacement) (was now : Tree) (units : Units) (range : Range ℕ) : Type 0 where
  pub answer : IsAnswer k c (candidates k c was) was now range
  pub tree_is : bare now ≡ bare (tree k (text_after c))
  pub units_are : units ≡ units_of (log k (text_after c))

-- No candidate passes whose nodes find numbers.
abbrev pub NonePasses : CharClasses → TextReplacement → Tree → Type 0
NonePasses k c was = Every (Refused k c was) (candidates k c was)

-- ---- some candidates (for private clauses)

-- These candidates of the code are the first of an edit's.
abbrev pub AreFirst : CharClasses → TextReplacement → Tree → Candidates → Type 0
AreFirst k c root found = map (spelled found.path.items) found.items.items ≡ take (length found.items.items) (candidates k c root)

-- These candidates are the first of the edit that is asked of them, and their path leads to the child after the place
-- that they name.
pub record CanTakeFirst {C : Type 0} (k : CharClasses) (q : Asked C) (root : Tree) (units : Units) (found : Candidates) : Type 0 where
  pub change : TextReplacement
  pub speaks : Speaks k change q root units
  pub first : AreFirst k change root found
  pub edge : IsRootEdge root found.first
  pub way : LeadsBy found.first.index found.path.items

-- Among the first n candidates none passes whose nodes find numbers.
abbrev pub NonePassesOf : CharClasses → TextReplacement → Tree → ℕ → Type 0
NonePassesOf k c was n = Every (Refused k c was) (take n (candidates k c was))

-- The first candidate that passes and whose nodes find numbers was put in its place, or there is none among the
-- first n.
abbrev pub TakesFirst : CharClasses → TextReplacement → Tree → Tree → Units → ℕ → Option Reread → Type 0
TakesFirst k c was now units n None = NonePassesOf k c was n
TakesFirst k c was now units n (Some read) = Takes k c was now units read.range

-- ---- one candidate (for private clauses)

-- The candidate is one of the edit that is asked of it, and a reading serves it.
pub record CanTake {C : Type 0} (k : CharClasses) (q : Asked C) (root : Tree) (units : Units) (path : List ℕ) (d : code.Candidate) (s : Option Serving) : Type 0 where
  pub change : TextReplacement
  pub speaks : Speaks k change q root units
  pub among : Among (at_path path d) (candidates k change root)
  pub serves : ServesFor k change root path d s

-- A candidate passed, and what it gives was put in its place, up to a byte of the new text.
pub record HasTaken (k : CharClasses) (c : TextReplacement) (d : Candidate) (was now : Tree) (units : Units) (end : ℕ) : Type 0 where
  pub nodes : List Tree
  pub gives : Gives k c d nodes
  pub put : replaced_at d.path d.from d.to nodes was ≡ Some now
  pub shifted : end + width c.old ≡ d.end + width c.new
  pub units_are : units ≡ units_of (log k (text_after c))

-- A candidate was put in its place, or is refused.
abbrev pub TakesPlace : CharClasses → TextReplacement → Candidate → Tree → Tree → Units → Option ℕ → Type 0
TakesPlace k c d was now units None = Refused k c was d
TakesPlace k c d was now units (Some end) = HasTaken k c d was now units end

-- A part was put in place of children, or its nodes find no numbers and nothing changed.
abbrev pub Puts : List ℕ → ℕ → ℕ → ReparsedPart → Tree → Tree → Units → Units → Bool → Type 0
Puts path from to p was now units units_now true = (replaced_at path from to p.nodes.items was ≡ Some now) × (units_now ≡ spliced p.from_entry p.to_entry p.entries.units.entries units)
Puts path from to p was now units units_now false = (replaced_at path from to p.nodes.items was ≡ None) × (now ≡ was) × (units_now ≡ units)

-- The index of the first of the root's children that a candidate changes, by the path to its parent and the index of
-- the child to which this path leads.
abbrev pub first_changed : List ℕ → code.Candidate → ℕ → ℕ
first_changed [] d step = d.from
first_changed (i ∷ path) d step = step
