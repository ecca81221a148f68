-- The visits of a walk through a tree in preorder.
use Rattle.std.specs.Prelude.{ℕ, ◌+◌, Bool, List, [], ◌∷◌, ◌++◌, filter, length, refl}
use Rattle.std.specs.Coded.{Coded, code_by, coded×, coded_ℕ, coded_list}
use Rattle.typst_kinds.specs.Head.{has_any}
use Rattle.typst_tree.specs.Tree.{Forest, none, more, Tree, tree_code, text_of, saturated, has_diagnostics}
use Rattle.typst_tree.specs.declared.preorder.Visit.{Visit}

-- a visit: a node, the byte where it begins, and how many levels it is below the node that the walk
-- began with
pub record Visited : Type 0 where
  pub node : Tree
  pub offset : ℕ
  pub depth : ℕ

-- visits are stored as lists of their fields
abbrev pub visits_code : Coded (List Visited)
visits_code =
    coded_list (code_by (Tree × (ℕ × ℕ)) (coded× tree_code (coded× coded_ℕ coded_ℕ)) (λ v. (v.node, (v.offset, v.depth))) (λ p. record { node = p.0; offset = p.1.0; depth = p.1.1 })
    (λ _. refl))

-- a visit, by what it borrows
abbrev pub visited : Visit → Visited
visited v = record { node = v.node.now; offset = v.offset; depth = v.depth }

-- trees that are side by side from a byte on: of each its root, then those below its root, then
-- those of the next tree
abbrev pub row : ℕ → ℕ → Forest → List Visited
row offset depth none = []
row offset depth (more h ks r) =
    let t : Tree = record { head = h; kids = ks } in
    record { node = t; offset = offset; depth = depth } ∷ (row (saturated (offset + length h.text)) (saturated (depth + 1)) ks ++ row (saturated (offset + length (text_of t))) depth r)

-- a tree that begins at a byte
abbrev pub walk : ℕ → Tree → List Visited
walk offset t = row offset 0 (more t.head t.kids none)

-- the visits of the nodes below a visited one
abbrev pub below : Visited → List Visited
below v = row (saturated (v.offset + length v.node.head.text)) (saturated (v.depth + 1)) v.node.kids

-- a visit of a marked node: it or a node below it has a diagnostic
abbrev pub is_marked : Visited → Bool
is_marked v = has_diagnostics v.node

-- of some visits those of marked nodes
abbrev pub marked : List Visited → List Visited
marked vs = filter is_marked vs

-- a visit of a node that has a diagnostic itself
abbrev pub is_diagnosed : Visited → Bool
is_diagnosed v = has_any v.node.head.diagnostics

-- of some visits those of nodes that have diagnostics themselves
abbrev pub diagnosed : List Visited → List Visited
diagnosed vs = filter is_diagnosed vs
