-- What has to be in a content block so that a label can follow code.
use Rattle.std.specs.Prelude.{ℕ, ◌-◌, ◌==◌, ◌||◌, Bool, true, false, List, [], ◌∷◌, length, Option, None, Some, option_and_then, option_map, if◌then◌else◌}
use Rattle.std.specs.List.{list_any}
use Rattle.std.specs.declared.ops.Range.{Range}
use Rattle.typst_kinds.specs.Kinds.{is_trivia, same}
use Rattle.typst_kinds.specs.declared.kind.SyntaxKind.{SyntaxKind}
use Rattle.typst_kinds.specs.declared.kind.SyntaxKind.TheVariants as node
use Rattle.typst_tree.specs.Tree.{Forest, none, more, Tree, trees}
use Rattle.typst_names.specs.Around.{Standing}
use Rattle.typst_names.specs.Bytes.{behind}
use Rattle.typst_fixes.specs.Gaps.{end_of, kind_of, within}

-- ---- the code

-- values that are one whatever is around them
abbrev pub is_atom : SyntaxKind → Bool
is_atom node.CodeBlock = true
is_atom node.ContentBlock = true
is_atom node.Parenthesized = true
is_atom node.Array = true
is_atom node.Dict = true
is_atom node.Equation = true
is_atom node.Raw = true
is_atom node.Ident = true
is_atom node.None = true
is_atom node.Auto = true
is_atom node.Bool = true
is_atom node.Int = true
is_atom node.Float = true
is_atom node.Numeric = true
is_atom node.Str = true
is_atom _ = false

-- a call, or a field without space around its dot
abbrev pub is_called : SyntaxKind → ℕ → Bool
is_called node.FuncCall n = true
is_called node.FieldAccess n = n == 3
is_called _ n = false

-- calls and fields of one of these values
abbrev pub begins_whole : List Standing → Bool
begins_whole [] = false
begins_whole (n ∷ ns) = if is_called (kind_of n) (length (trees n.node.kids)) then begins_whole ns else is_atom (kind_of n)

-- code that markup reads whole after a hash
abbrev pub is_whole : Standing → Bool
is_whole n = begins_whole (n ∷ within n.start n)

-- a `let` with such a child may have a value: an equals sign, or a function
abbrev pub binds : SyntaxKind → Bool
binds k = same node.Eq k || same node.Closure k

-- code of this kind that isn't read whole ends with a value
abbrev pub ends_with_value : SyntaxKind → List Tree → Bool
ends_with_value node.LetBinding ts = list_any (λ t. binds t.head.kind) ts
ends_with_value node.DestructAssignment ts = true
ends_with_value node.Closure ts = true
ends_with_value node.Unary ts = true
ends_with_value node.Binary ts = true
ends_with_value node.Contextual ts = true
ends_with_value node.FuncReturn ts = true
ends_with_value _ ts = false

-- where the first of nodes that is read whole begins, if those before it end with a value
abbrev pub first_whole : List Standing → Option ℕ
first_whole [] = None
first_whole (n ∷ ns) =
    if is_whole n then Some n.start
    else (if ends_with_value (kind_of n) (trees n.node.kids) then first_whole ns else None)

-- the outermost one at the end of a statement
abbrev pub last_value : Standing → Option ℕ
last_value n = first_whole (n ∷ within (end_of n - 1) n)

-- ---- the label

-- where the first label of some nodes ends
abbrev pub first_label : List Standing → Option ℕ
first_label [] = None
first_label (n ∷ ns) = if same node.Label (kind_of n) then Some (end_of n) else first_label ns

-- the label that a node begins with
abbrev pub label_of : Standing → Option ℕ
label_of n = first_label (n ∷ within n.start n)

-- the label that trees side by side from byte b on begin with, space and comments aside
abbrev pub label_after : ℕ → Forest → Option ℕ
label_after b none = None
label_after b (more h ks r) =
    if is_trivia h.kind then label_after (behind b h ks) r
    else label_of (record { start = b; node = record { head = h; kids = ks } })

-- FROM THE VALUE at the end of a statement to the label behind byte b, which these trees begin with
abbrev pub labelled : Standing → Forest → ℕ → Option (Range ℕ)
labelled n f b = option_and_then (λ a. option_map (λ e. record { start = a; end = e }) (label_after b f)) (last_value n)
