-- The names of a tree, by the table of scopes.
use Rattle.std.specs.Prelude.{ℕ, ◌+◌, ◌&&◌, Bool, true, false, List, [], ◌∷◌, ◌++◌, Option, None, Some, option_map, if◌then◌else◌}
use Rattle.std.specs.declared.ops.Range.{Range}
use Rattle.typst_kinds.specs.Head.{Head}
use Rattle.typst_kinds.specs.Kinds.{same}
use Rattle.typst_kinds.specs.declared.kind.SyntaxKind.TheVariants as kind
use Rattle.typst_tree.specs.Tree.{Forest, none, more, Tree, saturated}
use Rattle.typst_names.specs.Bytes as bytes
use Rattle.typst_names.specs.Modules.{name_in}
use Rattle.typst_names.specs.Scopes.{base, behind, first, opens, says, second, third}
use Rattle.typst_names.specs.declared.parts.NameKind.{NameKind}
use Rattle.typst_names.specs.declared.parts.NameKind.TheVariants as does
use Rattle.typst_names.specs.declared.parts.Part.{Part}
use Rattle.typst_names.specs.declared.parts.Part.TheVariants as part
use Rattle.typst_names.specs.declared.scopes.Name.{Name}

-- no tree is left
abbrev pub is_end : Forest → Bool
is_end none = true
is_end (more h ks r) = false

-- a name with its bytes, if it is one, and the byte up to which its scope goes
abbrev pub named : Option NameKind → Range ℕ → ℕ → List Name
named None r u = []
named (Some n) r u = record { kind = n; range = r; until = u } ∷ []

-- a stretch of a text that begins at byte a
abbrev pub moved : ℕ → Range ℕ → Range ℕ
moved a r = record { start = saturated (a + r.start); end = saturated (a + r.end) }

-- where a node has the name of the module that a bare import binds: in its text, if it is one, and
-- of the last field all of it
abbrev pub module_range : Part → Bool → ℕ → Head → Forest → Option (Range ℕ)
module_range part.Bare is_last a h ks = if same kind.Str h.kind then option_map (moved a) (name_in h.text) else None
module_range part.BoundField is_last a h ks = if is_last && same kind.Ident h.kind then Some (bytes.range a h ks) else None
module_range _ is_last a h ks = None

-- that name, if there is one, of a node that ends at byte e, and the byte up to which its scope goes
abbrev pub module_named : Option (Range ℕ) → ℕ → ℕ → List Name
module_named None e u = []
module_named (Some r) e u = record { kind = does.Module e; range = r; until = u } ∷ []

-- a node's own name, or that of the module that it is from
abbrev pub own : Part → Bool → ℕ → ℕ → Head → Forest → List Name
own p is_last u a h ks =
    named (says p h.kind is_last) (bytes.range a h ks) u ++ module_named (module_range p is_last a h ks) (bytes.behind a h ks) u

-- up to where what is bound in a part holds, of a node that ends at byte e in a scope that ends at
-- byte u
abbrev pub held : Part → ℕ → ℕ → ℕ
held p u e = if opens p then e else u

-- the names of trees side by side from byte a on, which are taken as this part of a scope that ends
-- at byte u, in the order in which they come to hold: of a node its own, then those of the up to
-- three parts below it
abbrev pub names_in : Part → ℕ → ℕ → Forest → List Name
names_in p u a none = []
names_in p u a (more h ks r) =
    let b : Part = base p (is_end r) in
    let e : ℕ = bytes.behind a h ks in
    let below : Part → List Name = λ q. names_in q (held q u e) (bytes.inner a h) ks in
    own b (is_end r) u a h ks
    ++ (below (first b h.kind) ++ (below (second b h.kind) ++ (below (third b h.kind) ++ names_in (behind p h.kind) u e r)))

-- the names of a tree
abbrev pub names : Tree → List Name
names t = names_in part.Value (bytes.behind 0 t.head t.kids) 0 (more t.head t.kids none)
