-- What a walk back found (for private clauses).
use Rattle.std.specs.Prelude.{◌≡◌, ℕ, ◌+◌, ◌<◌, Bool, Option, None, Some, min, take, slice_get}
use Rattle.typst_tree.specs.Tree.{Tree, nodes, places, trees, forest, count, saturated}
use Rattle.typst_tree.specs.Replace.{At}
use Rattle.typst_tree.specs.Follows.{in_order_of}
use Rattle.typst_tree.specs.Rows.{Holds, IsOpen}
use Rattle.typst_tree.specs.Walks.{Stands, Within, last_leaf}
use Rattle.typst_tree.specs.declared.back.Found.{Found}
use Rattle.typst_tree.specs.declared.back.Seen.{Seen}
use Rattle.typst_tree.specs.declared.back.Seen.TheVariants as seen

-- a node that is the tree t, numbered n, or is below it: it begins so many bytes after t, and what
-- is known of the way to it holds in each tree that has t where the way to t is open
pub record IsBelow (t : Tree) (n : ℕ) (in_order : Bool) (f : Found) : Type 0 where
  pub within : Within n 0 (places t) f.number f.begins (places f.node.now)
  pub order : in_order_of f.known ≡ in_order
  pub holds : (root : Tree) (b : ℕ) → Stands (places root) n b (places t) → IsOpen root n → Holds root f.number (saturated (b + f.begins)) (nodes f.node.now) f.known

-- a node that is the child with the index i of the node o, numbered n, or is below that child
abbrev pub IsBelowChild : Tree → ℕ → ℕ → Bool → Found → Type 0
IsBelowChild o n i in_order f =
    At (λ t. IsBelow t (n + 1 + count (forest (take i (trees o.kids)))) in_order f) (slice_get (trees o.kids) i)

-- the last leaf that is neither trivia nor an error and has a number below m, of a node and those
-- below it
abbrev pub last_of : ℕ → Found → Option ℕ
last_of m o = last_leaf m o.number (places o.node.now)

-- f is the node o, or one below it, as it is found there
abbrev pub IsUnder : Found → Found → Type 0
IsUnder o f = IsBelow o.node.now o.number (in_order_of o.known) f

-- the last leaf that counts and has a number below m is found among the node o and those below it, or there
-- is none
abbrev pub FindsLast : Found → ℕ → Option Found → Type 0
FindsLast o m None = last_of m o ≡ None
FindsLast o m (Some f) = (last_of m o ≡ Some f.number) × IsUnder o f

-- a look back for the last leaf that counts and has a number below m finds it, or a child of more
-- than `heavy` nodes after which no such leaf is, or says that there is none
abbrev pub LooksBack : ℕ → ℕ → Found → Seen → Type 0
LooksBack m heavy o (seen.Leaf f) = (last_of m o ≡ Some f.number) × IsUnder o f
LooksBack m heavy o (seen.Heavy f) = (last_of m o ≡ last_of (min m (f.number + nodes f.node.now)) o) × IsUnder o f × (f.number < m) × (nodes f.node.now < nodes o.node.now) × (heavy < nodes f.node.now)
LooksBack m heavy o seen.Nothing = last_of m o ≡ None
