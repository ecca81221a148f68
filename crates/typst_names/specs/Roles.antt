-- What the names of a tree are.
use Rattle.std.specs.Prelude.{◌==◌, List, [], ◌∷◌, ◌++◌, length, Option, if◌then◌else◌}
use Rattle.typst_kinds.specs.Head.{Head}
use Rattle.typst_tree.specs.Tree.{Forest, none, more, Tree}
use Rattle.typst_names.specs.Names.{is_end}
use Rattle.typst_names.specs.Contexts.{after, below, role_of}
use Rattle.typst_names.specs.declared.contexts.Context.{Context}
use Rattle.typst_names.specs.declared.contexts.Context.TheVariants as context
use Rattle.typst_names.specs.declared.contexts.Role.{Role}

-- a node with a text of its own has a role, or none
abbrev pub own : Head → Option Role → List (Option Role)
own h role = if length h.text == 0 then [] else role ∷ []

-- the roles of trees side by side in a context: of each node with a text of its own, in order
abbrev pub row : Context → Forest → List (Option Role)
row c none = []
row c (more h ks r) = own h (role_of c h.kind (is_end r)) ++ (row (below c h.kind) ks ++ row (after c h.kind) r)

-- the roles of a tree
abbrev pub roles : Tree → List (Option Role)
roles t = row context.Value (more t.head t.kids none)
