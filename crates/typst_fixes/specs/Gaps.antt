-- Places between tokens for a delimiter, and the nodes that would keep it there.
use Rattle.std.specs.Prelude.{ℕ, ◌-◌, ◌==◌, ◌&&◌, ◌||◌, not, nat_lt, Bool, true, false, List, [], ◌∷◌, codes, Option, None, Some, zero, suc, if◌then◌else◌}
use Rattle.std.specs.List.{find, list_any}
use Rattle.std.specs.Str.{bytes_eq}
use Rattle.typst_kinds.specs.Head.{Head}
use Rattle.typst_kinds.specs.Kinds.{is_trivia, same}
use Rattle.typst_kinds.specs.declared.kind.SyntaxKind.{SyntaxKind}
use Rattle.typst_kinds.specs.declared.kind.SyntaxKind.TheVariants as node
use Rattle.typst_tree.specs.Tree.{Forest, none, more, Tree}
use Rattle.typst_names.specs.Around.{Standing}
use Rattle.typst_names.specs.Bytes.{inner, behind, range}
use Rattle.typst_names.specs.Selections.{holds}

-- ---- the way to a byte

-- of trees side by side from byte a on the first that holds byte b, its first child that does, and so on
abbrev pub path : ℕ → ℕ → Forest → List Standing
path b a none = []
path b a (more h ks r) =
    if holds b (range a h ks) then record { start = a; node = record { head = h; kids = ks } } ∷ path b (inner a h) ks else path b (behind a h ks) r

-- those within a node
abbrev pub within : ℕ → Standing → List Standing
within b n = path b (inner n.start n.node.head) n.node.kids

-- the byte at which a node ends
abbrev pub end_of : Standing → ℕ
end_of n = behind n.start n.node.head n.node.kids

abbrev pub kind_of : Standing → SyntaxKind
kind_of n = n.node.head.kind

-- ---- which nodes keep a delimiter

-- what goes on to the end of its line
abbrev pub is_line : SyntaxKind → Bool
is_line node.ListItem = true
is_line node.EnumItem = true
is_line node.TermItem = true
is_line node.Heading = true
is_line _ = false

-- nodes with delimiters of their own
abbrev pub has_delimiters : SyntaxKind → Bool
has_delimiters node.ContentBlock = true
has_delimiters node.CodeBlock = true
has_delimiters node.Equation = true
has_delimiters node.Strong = true
has_delimiters node.Emph = true
has_delimiters node.Args = true
has_delimiters node.MathArgs = true
has_delimiters node.Params = true
has_delimiters node.Parenthesized = true
has_delimiters node.Array = true
has_delimiters node.Dict = true
has_delimiters node.Destructuring = true
has_delimiters _ = false

-- nothing closes a node whose first child, its delimiter, is an error
abbrev pub is_open : Forest → Bool
is_open none = false
is_open (more h ks r) = same node.Error h.kind

-- a bracket, or the backslash before one that closes nothing
abbrev pub is_of_bracket : List ℕ → Bool
is_of_bracket closer = bytes_eq closer (codes "]") || bytes_eq closer (codes "\\")

-- a node of this kind that nothing closes ends where a node around it is closed
abbrev pub ends_by : SyntaxKind → List ℕ → Bool
ends_by node.ContentBlock closer = false
ends_by node.Equation closer = false
ends_by node.Strong closer = is_of_bracket closer
ends_by node.Emph closer = is_of_bracket closer
ends_by node.CodeBlock closer = bytes_eq closer (codes "]") || bytes_eq closer (codes ")")
ends_by node.MathArgs closer = bytes_eq closer (codes "$")
ends_by _ closer = bytes_eq closer (codes "]") || bytes_eq closer (codes "}")

-- a node would keep a delimiter that is put at byte b: it goes on to the end of its line, or byte b is between its own delimiters
abbrev pub keeps : List ℕ → ℕ → Standing → Bool
keeps closer b n =
    if is_line (kind_of n) then not (is_of_bracket closer)
    else (if has_delimiters (kind_of n) then (if is_open n.node.kids then not (ends_by (kind_of n) closer) else nat_lt b (end_of n)) else false)

-- one of the nodes within a node that hold the byte before byte b would
abbrev pub is_kept : List ℕ → ℕ → Standing → Bool
is_kept closer b n = list_any (keeps closer b) (within (b - 1) n)
