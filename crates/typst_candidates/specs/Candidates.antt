-- What of a tree an edit may read again: blocks that cover the replaced bytes, and pieces around them, in order.
use Rattle.std.specs.Prelude.{ℕ, zero, suc, ◌+◌, ◌-◌, ◌*◌, max, min, Bool, true, false, not, ◌||◌, ◌&&◌, ◌==◌, nat_lt, nat_le, if◌then◌else◌, List, [], ◌∷◌, ◌++◌, length, Option, Some, None}
use Rattle.typst_kinds.specs.Kinds.{same, is_trivia, is_error, is_block}
use Rattle.typst_kinds.specs.declared.kind.SyntaxKind.{SyntaxKind}
use Rattle.typst_kinds.specs.declared.kind.SyntaxKind.TheVariants as kind
use Rattle.typst_language.specs.declared.calls.Note.{Note}
use Rattle.typst_tree.specs.Tree.{Tree, Forest, none, more, forest, trees, joined, text_of}
use Rattle.typst_candidates.specs.Units.{top_cuts, cuts_in}

-- ---- children with their bytes

-- a child of a node, and the bytes where it begins and ends
pub record Child : Type 0 where
  pub start : ℕ
  pub end : ℕ
  pub node : Tree

-- trees side by side from a byte on, as children
abbrev pub laid : ℕ → List Tree → List Child
laid at [] = []
laid at (t ∷ ts) = record { start = at; end = at + length (text_of t); node = t } ∷ laid (at + length (text_of t)) ts

-- how many of the first children begin before a byte
abbrev pub begun : ℕ → List Child → ℕ
begun b [] = 0
begun b (c ∷ cs) = if nat_lt c.start b then suc (begun b cs) else 0

-- how many of the first children end at a byte or before it
abbrev pub ended : ℕ → List Child → ℕ
ended b [] = 0
ended b (c ∷ cs) = if nat_le c.end b then suc (ended b cs) else 0

-- the index of the last child that begins before the replaced bytes, or else of the first
abbrev pub first_near : ℕ → List Child → ℕ
first_near rs cs = begun rs cs - 1

-- the index after the first child that ends after the replaced bytes, or else after the last
abbrev pub end_near : ℕ → List Child → ℕ
end_near re cs = min (suc (ended re cs)) (length cs)

-- ---- which children may be at the ends of a child range

-- a text of one character, a slash or a colon
abbrev pub is_sign : List ℕ → Bool
is_sign [] = false
is_sign (c ∷ []) = c == 47 || c == 58
is_sign (c ∷ d ∷ cs) = false

-- trivia, errors, semicolons, and leaves that are a slash or a colon cling to what is before them
abbrev pub clings : Tree → Bool
clings t = is_trivia t.head.kind || (is_error t.head.kind || (same kind.Semicolon t.head.kind || (not t.head.is_inner && is_sign t.head.text)))

-- whether the node is a hash
abbrev pub is_hash : Tree → Bool
is_hash t = same kind.Hash t.head.kind

-- whether a byte is one of some
abbrev pub is_among : ℕ → List ℕ → Bool
is_among b [] = false
is_among b (c ∷ cs) = b == c || is_among b cs

-- a child begins a piece that isn't the run's first: it begins where a piece does, and isn't empty.
-- What is empty belongs to the piece before
abbrev pub leads : List ℕ → Child → Bool
leads cuts c = nat_lt c.start c.end && is_among c.start cuts

-- the child of an index
abbrev pub child_at : List Child → ℕ → Option Child
child_at [] n = None
child_at (c ∷ cs) zero = Some c
child_at (c ∷ cs) (suc n) = child_at cs n

-- the child of an index passes a test; none passes where there is no child
abbrev pub holds_at : (Child → Bool) → List Child → ℕ → Bool
holds_at f [] n = false
holds_at f (c ∷ cs) zero = f c
holds_at f (c ∷ cs) (suc n) = holds_at f cs n

-- from an index back to the nearest that fails a test, or else to the first
abbrev pub back_past : (ℕ → Bool) → ℕ → ℕ
back_past f zero = 0
back_past f (suc n) = if f (suc n) then back_past f n else suc n

-- from an index on to the nearest that fails a test, over a limited number at most
abbrev pub on_past : (ℕ → Bool) → ℕ → ℕ → ℕ
on_past f zero n = n
on_past f (suc limit) n = if f n then on_past f limit (suc n) else n

-- ---- ranges of a run's children

-- the children of a run from one index to another
pub record ChildRange : Type 0 where
  pub from : ℕ
  pub to : ℕ

-- the index of the hash directly before a child, if there is one, or else the child's own
abbrev pub with_hash : List Child → ℕ → ℕ
with_hash cs n = if nat_lt 0 n && holds_at (λ c. is_hash c.node) cs (n - 1) then n - 1 else n

-- where the range around i..j with x more children on each side begins: x back, but at least two;
-- then back past children that cling, to a hash directly before, and to the first child of a piece
abbrev pub from_of : List ℕ → List Child → ℕ → ℕ → ℕ
from_of cuts cs i x =
    back_past (holds_at (λ c. not (leads cuts c)) cs) (with_hash cs (back_past (holds_at (λ c. clings c.node) cs) (i - max x 2)))

-- where that range ends: x on, then past children that cling, up to the first child of a piece
abbrev pub to_of : List ℕ → List Child → ℕ → ℕ → ℕ
to_of cuts cs j x =
    on_past (holds_at (λ c. clings c.node || not (leads cuts c)) cs) (length cs - min (j + x) (length cs)) (min (j + x) (length cs))

-- the range around the children i..j with x more on each side, as whole pieces
abbrev pub around : List ℕ → List Child → ℕ → ℕ → ℕ → ChildRange
around cuts cs i j x = record { from = from_of cuts cs i x; to = to_of cuts cs j x }

-- the range has all children
abbrev pub is_all : List Child → ChildRange → Bool
is_all cs s = s.from == 0 && s.to == length cs

-- the ranges with x more children on each side, and twice as many each time, until all are
-- taken. One try more than there are children is always enough
abbrev pub child_ranges : List ℕ → List Child → ℕ → ℕ → ℕ → ℕ → List ChildRange
child_ranges cuts cs i j zero x = []
child_ranges cuts cs i j (suc tries) x = around cuts cs i j x ∷ (if is_all cs (around cuts cs i j x) then [] else child_ranges cuts cs i j tries (2 * x))

-- ---- candidates

-- the children from..to of the node at the end of a path, which are the bytes start..end: a block
-- alone, or pieces of a run
pub record Candidate : Type 0 where
  pub is_block : Bool
  pub path : List ℕ
  pub from : ℕ
  pub to : ℕ
  pub start : ℕ
  pub end : ℕ

-- the byte where the child of an index begins, or where the last one ends
abbrev pub begins : ℕ → List Tree → ℕ → ℕ
begins at [] n = at
begins at (t ∷ ts) zero = at
begins at (t ∷ ts) (suc n) = begins (at + length (text_of t)) ts n

-- the children from..to of a node whose children begin at a byte, as a candidate
abbrev pub of_children : Bool → List ℕ → ℕ → List Tree → ℕ → ℕ → Candidate
of_children is_block path at ts from to = record { is_block = is_block; path = path; from = from; to = to; start = begins at ts from; end = begins at ts to }

-- ranges of a run's children, as candidates
abbrev pub of_child_ranges : List ℕ → ℕ → List Tree → List ChildRange → List Candidate
of_child_ranges path at ts [] = []
of_child_ranges path at ts (s ∷ ss) = of_children false path at ts s.from s.to ∷ of_child_ranges path at ts ss

-- the candidates of a run: ranges of its children around the replaced bytes rs..re, by where its
-- pieces begin. What isn't a run has none
abbrev pub of_run : ℕ → ℕ → List ℕ → ℕ → List Tree → Option (List ℕ) → List Candidate
of_run rs re path at ts None = []
of_run rs re path at ts (Some cuts) = let cs = laid at ts in of_child_ranges path at ts (child_ranges cuts cs (first_near rs cs) (end_near re cs) (suc (length ts)) 1)

-- child i is alone near the replaced bytes, is an inner node, begins before them and ends after
-- them
abbrev pub covers : ℕ → ℕ → List Child → ℕ → Child → Bool
covers rs re cs i c = (end_near re cs == suc i) && (nat_lt c.start rs && (nat_lt re c.end && c.node.head.is_inner))

-- where the pieces of a child begin, if it is a run: the markup of the content block that begins at
-- a byte
abbrev pub run_in : List Note → ℕ → SyntaxKind → SyntaxKind → Option (List ℕ)
run_in ns at parent child = if same kind.ContentBlock parent && same kind.Markup child then cuts_in at ns else None

-- a child as a candidate, if it is a block
abbrev pub of_block : List ℕ → ℕ → List Tree → ℕ → SyntaxKind → List Candidate
of_block path at ts i k = if is_block k then of_children true path at ts i (suc i) ∷ [] else []

-- the candidates at the tree of an index among some side by side: those at its child that covers
-- the replaced bytes, then that child if it is a block, then those of the tree's own run
unfoldable pub candidates_at : List Note → ℕ → ℕ → List ℕ → Option (List ℕ) → ℕ → ℕ → Forest → List Candidate
candidates_at ns rs re path run index at none = []
candidates_at ns rs re path run (suc index) at (more h ks r) = candidates_at ns rs re path run index (at + length (h.text ++ joined ks)) r
candidates_at ns rs re path run zero at (more h ks r) =
    let inside = at + length h.text in
    let cs = laid inside (trees ks) in
    let i = first_near rs cs in
    (elim (child_at cs i) as (λ _. List Candidate) [
      | None ↦ []
      | Some c ↦
          if covers rs re cs i c
          then candidates_at ns rs re (path ++ i ∷ []) (run_in ns at h.kind c.node.head.kind) i inside ks ++ of_block path inside (trees ks) i c.node.head.kind
          else []
    ])
    ++ of_run rs re path inside (trees ks) run

-- THE CANDIDATES of replacing the bytes rs..re of a text, in order, by its tree and its notes
abbrev pub candidates : List Note → ℕ → ℕ → Tree → List Candidate
candidates ns rs re t = candidates_at ns rs re [] (top_cuts ns) 0 0 (forest (t ∷ []))
