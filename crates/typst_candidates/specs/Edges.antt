-- Places between the children of a node (mostly for private clauses).
use Rattle.std.specs.Prelude.{◌≡◌, ℕ, ◌+◌, ◌-◌, ◌^◌, ◌<◌, ◌≤◌, Option, Some, None, List, [], ◌∷◌, ◌++◌, length, take, filter, ◌==◌, ◌&&◌, Bool, nat_lt, nat_le, suc, if◌then◌else◌}
use Rattle.typst_language.specs.declared.calls.Note.{Note}
use Rattle.typst_tree.specs.Tree.{Tree, forest, trees}
use Rattle.typst_candidates.specs.declared.cuts.Cuts.{Cuts}
use Rattle.typst_candidates.specs.declared.cuts.Window.{Window}
use Rattle.typst_candidates.specs.declared.candidate.Candidate as found
use Rattle.typst_candidates.specs.declared.enclosing.RunAt.{RunAt}
use Rattle.typst_candidates.specs.declared.enclosing.RunAt.TheVariants as run
use Rattle.typst_candidates.specs.declared.entry.Entry.{Entry}
use Rattle.typst_candidates.specs.declared.children.Edge.{Edge}
use Rattle.typst_candidates.specs.declared.children.Near.{Near}
use Rattle.typst_candidates.specs.declared.children.ChildRange as children
use Rattle.typst_candidates.specs.Candidates.{Candidate, ChildRange, laid, child_at, begins, first_near, end_near, covers, run_in, of_block, candidates_at}
use Rattle.typst_candidates.specs.Cursors.{pieces_in, pieces_of}
use Rattle.typst_candidates.specs.Units.{after_first}

-- a place between children: `index` of them are before it, and it is at this byte
pub record IsEdge (at : ℕ) (ts : List Tree) (e : Edge) : Type 0 where
  pub within : e.index ≤ length ts
  pub byte : e.byte ≡ begins at ts e.index

-- a place between the children of a tree's root
abbrev pub IsRootEdge : Tree → Edge → Type 0
IsRootEdge t e = IsEdge (length t.head.text) (trees t.kids) e

-- a path that has steps goes to the child of an index first
abbrev pub LeadsBy : ℕ → List ℕ → Type 0
LeadsBy i [] = Unit {0}
LeadsBy i (j ∷ path) = j ≡ i

-- where the last child ends is a number of the machine
abbrev pub Fits : ℕ → List Tree → Type 0
Fits at ts = begins at ts (length ts) < 2 ^ 64

-- the place before the first and the one after the last of the children near the bytes rs..re
pub record IsNear (at : ℕ) (ts : List Tree) (rs re : ℕ) (near : Near) : Type 0 where
  pub first : near.first.index ≡ first_near rs (laid at ts)
  pub end : near.end.index ≡ end_near re (laid at ts)
  pub first_edge : IsEdge at ts near.first
  pub end_edge : IsEdge at ts near.end

-- a child range by the indices of its children
abbrev pub indices : children.ChildRange → ChildRange
indices s = record { from = s.from.index; to = s.to.index }

-- where the pieces of a run begin within a window, as they were found
abbrev pub bytes_of : Cuts → List ℕ
bytes_of c = c.starts.items

-- those of some bytes that are in a window
abbrev pub within : Window → List ℕ → List ℕ
within w bs = filter (λ b. nat_le w.from b && nat_le b w.to) bs

-- a window of all bytes
abbrev pub IsWhole : Window → Type 0
IsWhole w = (w.from ≡ 0) × (w.to ≡ 2 ^ 64 - 1)

-- where the pieces of a run were found to begin is where they do, within a window; nothing is found
-- where there is no run
abbrev pub IsRun : Window → Option (List ℕ) → Option Cuts → Type 0
IsRun w all None = all ≡ None
IsRun w all (Some cuts) = (bs : List ℕ) × (all ≡ Some bs) × (cuts.window ≡ w) × (bytes_of cuts ≡ within w bs)

-- where the pieces of the text's own run begin, or those of the content block's at a byte, except
-- the first
abbrev pub pieces_at : List Entry → RunAt → Option (List ℕ)
pieces_at es run.Text = after_first (pieces_of 0 0 es)
pieces_at es (run.Block at) = pieces_in at 0 es

-- a candidate, whose path is as much of another path as its depth says
abbrev pub spelled : List ℕ → found.Candidate → Candidate
spelled path c = record { is_block = c.is_block; path = take c.depth path; from = c.from; to = c.to; start = c.start; end = c.end }

-- the first of the children near the bytes rs..re is alone there, begins before them and ends after
-- them, and may be an inner node
abbrev pub is_covered : ℕ → ℕ → Near → Bool → Bool
is_covered rs re near is_inner = (near.end.index == suc near.first.index) && (nat_lt near.first.byte rs && (nat_lt re near.end.byte && is_inner))

-- the candidates at a node that begins at a byte: those at its child that covers the replaced
-- bytes, then that child if it is a block
abbrev pub below : List Note → ℕ → ℕ → List ℕ → ℕ → Tree → List Candidate
below ns rs re path at t =
    let inside = at + length t.head.text in
    let cs = laid inside (trees t.kids) in
    let i = first_near rs cs in
    elim (child_at cs i) as (λ _. List Candidate) [
      | None ↦ []
      | Some c ↦
          if covers rs re cs i c
          then candidates_at ns rs re (path ++ i ∷ []) (run_in ns at t.head.kind c.node.head.kind) 0 c.start (forest (c.node ∷ [])) ++ of_block path inside (trees t.kids) i c.node.head.kind
          else []
    ]
