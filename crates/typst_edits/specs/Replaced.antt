-- Children of a numbered tree replaced.
use Rattle.std.specs.Prelude.{◌≡◌, ℕ, ◌+◌, List, ◌++◌, length, take, map, slice_range, Some}
use Rattle.typst_tree.specs.Tree.{Tree, bare}
use Rattle.typst_tree.specs.Replace.{kids_of, replaced_at, Reaches}
use Rattle.typst_tree.specs.Laws.{AtPath, put_at}
use Rattle.typst_edits.specs.Children.{with_children}

-- the children from..to of a node begin with these, spans aside
abbrev pub Begins : ℕ → ℕ → List Tree → Tree → Type 0
Begins from to kept t = map bare (take (length kept) (slice_range (kids_of t) from to)) ≡ map bare kept

-- New children that begin with those that stand there take their places, and get their numbers, as without them.
abbrev pub FrontLaw : Type 0
FrontLaw = (path : List ℕ) (from to : ℕ) (kept new : List Tree) (t : Tree) → AtPath (Begins from to kept) path t
    → replaced_at path from to (kept ++ new) t ≡ replaced_at path (from + length kept) to new t

-- New children in a numbered tree are, spans aside, those in each tree that it is, spans aside.
abbrev pub ReplacedLaw : Type 0
ReplacedLaw = (path : List ℕ) (from to : ℕ) (new : List Tree) (root was now : Tree) → bare root ≡ bare was → Reaches path from to root
    → replaced_at path from to new root ≡ Some now → bare now ≡ bare (with_children path from to new was)

-- Children put in the place of others are those exchanged.
abbrev pub PutLaw : Type 0
PutLaw = (path : List ℕ) (from to : ℕ) (new : List Tree) (t : Tree) → put_at path from to new t ≡ with_children path from to new t

-- Spans aside, a tree with children exchanged is the tree, spans aside, with these children, spans aside.
abbrev pub ExchangedLaw : Type 0
ExchangedLaw = (path : List ℕ) (from to : ℕ) (new : List Tree) (t : Tree) → bare (with_children path from to new t) ≡ with_children path from to (map bare new) (bare t)
