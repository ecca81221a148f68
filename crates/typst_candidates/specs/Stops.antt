-- What may be read again at the runs and blocks around the replaced bytes (for private clauses).
use Rattle.std.specs.Prelude.{ℕ, ◌+◌, suc, true, Option, Some, None, List, [], ◌∷◌, ◌++◌, length, take, slice_get, if◌then◌else◌}
use Rattle.typst_tree.specs.Tree.{Tree, trees}
use Rattle.typst_candidates.specs.declared.entry.Entry.{Entry}
use Rattle.typst_candidates.specs.declared.enclosing.Enclosing.{Enclosing}
use Rattle.typst_candidates.specs.declared.enclosing.Enclosing.TheVariants as enclosing
use Rattle.typst_candidates.specs.declared.enclosing.Stop.{Stop}
use Rattle.typst_candidates.specs.Candidates.{Candidate, laid, child_ranges, of_children, of_child_ranges}
use Rattle.typst_candidates.specs.Edges.{is_covered, pieces_at}

-- where the children of a stop's node begin
abbrev pub inside : Stop → ℕ
inside s = s.at + length s.node.now.head.text

-- the children of a stop's node
abbrev pub kids : Stop → List Tree
kids s = trees s.node.now.kids

-- the child of a stop that covers the bytes rs..re
abbrev pub covering : ℕ → ℕ → Stop → Option Tree
covering rs re s = elim (slice_get (kids s) s.near.first.index) as (λ _. Option Tree) [
  | None ↦ None
  | Some t ↦ if is_covered rs re s.near t.head.is_inner then Some t else None
]

-- the children near the replaced bytes, as a candidate that is a block
abbrev pub block_of : List ℕ → Stop → Candidate
block_of path s = of_children true (take s.depth path) (inside s) (kids s) s.near.first.index s.near.end.index

-- ranges of the children of a run around the replaced bytes, by where its pieces begin
abbrev pub run_of : List ℕ → Stop → Option (List ℕ) → List Candidate
run_of path s None = []
run_of path s (Some cuts) = of_child_ranges (take s.depth path) (inside s) (kids s) (child_ranges cuts (laid (inside s) (kids s)) s.near.first.index s.near.end.index (suc (length (kids s))) 1)

-- the candidates of a block or a run
abbrev pub found_in : List Entry → List ℕ → Enclosing → List Candidate
found_in es path (enclosing.Block s) = block_of path s ∷ []
found_in es path (enclosing.Run s run) = run_of path s (pieces_at es run)

-- the candidates of several runs and blocks, each of which is around those that follow it, from the
-- innermost out
abbrev pub found_in_all : List Entry → List ℕ → List Enclosing → List Candidate
found_in_all es path [] = []
found_in_all es path (e ∷ inner) = found_in_all es path inner ++ found_in es path e
