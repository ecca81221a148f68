-- What a search finds from a number on (for private clauses).
use Rattle.std.specs.Prelude.{◌≡◌, ℕ, ◌<◌, ◌≤◌, Bool, Option, None, Some, IfSome}
use Rattle.typst_tree.specs.Tree.{Tree, nodes, places}
use Rattle.typst_tree.specs.Walks.{first_at, Within}
use Rattle.typst_tree.specs.declared.search.Spot.{Spot}
use Rattle.typst_tree.specs.declared.search.Look.{Look}
use Rattle.typst_tree.specs.declared.search.Look.TheVariants as look

-- the number of the first node that passes a test, of a node and those below it
abbrev pub first_of : (ℕ → ℕ → Tree → Bool) → Spot → Option ℕ
first_of p o = first_at p o.number o.offset (places o.node.now)

-- s is the node o, or one below it
abbrev pub IsIn : Spot → Spot → Type 0
IsIn o s = Within o.number o.offset (places o.node.now) s.number s.offset (places s.node.now)

-- if a node passes the test, the first such node has the number m or a larger one
abbrev pub FoundFrom : (ℕ → ℕ → Tree → Bool) → ℕ → Spot → Type 0
FoundFrom p m o = IfSome (first_of p o) (λ k. m ≤ k)

-- the first node that passes the test, of a node and those below it
abbrev pub Finds : (ℕ → ℕ → Tree → Bool) → Spot → Option Spot → Type 0
Finds p o None = first_of p o ≡ None
Finds p o (Some s) = (first_of p o ≡ Some s.number) × IsIn o s

-- a look for the first node that passes the test finds it, or a child of more than `heavy` nodes
-- before which no such node is, or says that there is none
abbrev pub Looks : (ℕ → ℕ → Tree → Bool) → ℕ → Spot → Look → Type 0
Looks p heavy o (look.Found s) = (first_of p o ≡ Some s.number) × IsIn o s
Looks p heavy o (look.Heavy s) = FoundFrom p s.number o × IsIn o s × (nodes s.node.now < nodes o.node.now) × (heavy < nodes s.node.now)
Looks p heavy o look.Nothing = first_of p o ≡ None
