-- Where candidates stand in a tree.
use Rattle.std.specs.Prelude.{◌≡◌, ℕ, ◌≤◌, IsTrue, List, Some}
use Rattle.typst_language.specs.declared.calls.Note.{Note}
use Rattle.typst_tree.specs.Tree.{Tree, bare}
use Rattle.typst_tree.specs.Replace.{replaced_at, Reaches}
use Rattle.typst_tree.specs.Laws.{start_at}
use Rattle.typst_candidates.specs.Candidates.{Candidate, candidates}
use Rattle.typst_edits.specs.Children.{with_children}
use Rattle.typst_edits.specs.Edit.{Among}
use Rattle.typst_edits.specs.Every.{Every}

-- its path leads to an inner node, whose children from one place up to another are the bytes that it says
pub record StandsIn (root : Tree) (c : Candidate) : Type 0 where
  pub reaches : Reaches c.path c.from c.to root
  pub start : c.start ≡ start_at c.path c.from root
  pub end : c.end ≡ start_at c.path c.to root

-- Each candidate of an edit stands in the tree.
abbrev pub CandidatePlacesLaw : Type 0
CandidatePlacesLaw = (notes : List Note) (start end : ℕ) (root : Tree) → IsTrue root.head.is_inner → start ≤ end → Every (StandsIn root) (candidates notes start end root)

-- New children in the place of a candidate's are, spans aside, those exchanged in each tree that the old one is, spans aside.
abbrev pub CandidateTreeLaw : Type 0
CandidateTreeLaw = (notes : List Note) (start end : ℕ) (c : Candidate) (new : List Tree) (root was now : Tree) → IsTrue root.head.is_inner → start ≤ end → Among c (candidates notes start end root)
    → bare root ≡ bare was → replaced_at c.path c.from c.to new root ≡ Some now → bare now ≡ bare (with_children c.path c.from c.to new was)
