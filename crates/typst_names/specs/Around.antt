-- A node with its place, and which nodes of it hold a byte.
use Rattle.std.specs.Prelude.{◌≡◌, ℕ, ◌==◌, ◌&&◌, Bool, true, false, List, [], Option, None, Some, if◌then◌else◌}
use Rattle.std.specs.declared.ops.Range.{Range}
use Rattle.typst_tree.specs.Tree.{Forest, none, more, Tree}
use Rattle.typst_names.specs.Bytes.{behind, range}
use Rattle.typst_names.specs.Selections.{around, holds}
use Rattle.typst_names.specs.declared.places.Placed.{Placed}

-- the bytes of the node
abbrev pub range_of : Placed → Range ℕ
range_of p = range p.start p.node.now.head p.node.now.kids

-- the ranges that hold byte b, of the node and those below it, if there is a node
abbrev pub around_it : ℕ → Option Placed → List (Range ℕ)
around_it b None = []
around_it b (Some p) = around b p.start (more p.node.now.head p.node.now.kids none)

-- the node, if there is one, holds byte b
abbrev pub HoldsIt : ℕ → Option Placed → Type 0
HoldsIt b None = Unit {0}
HoldsIt b (Some p) = holds b (range_of p) ≡ true

-- there is a node that has this range
abbrev pub has_range : Option Placed → Range ℕ → Bool
has_range None r = false
has_range (Some p) r = (p.start == r.start) && ((range_of p).end == r.end)

-- a node, and the byte at which it begins
pub record Standing : Type 0 where
  pub start : ℕ
  pub node : Tree

-- one of the code, by what it borrows
abbrev pub standing : Placed → Standing
standing p = record { start = p.start; node = p.node.now }

-- the first of trees side by side from byte a on that holds byte b
abbrev pub kid_at : ℕ → ℕ → Forest → Option Standing
kid_at b a none = None
kid_at b a (more h ks r) = if holds b (range a h ks) then Some (record { start = a; node = record { head = h; kids = ks } }) else kid_at b (behind a h ks) r
