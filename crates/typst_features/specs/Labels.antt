-- The labels of a tree, and the references to them.
use Rattle.std.specs.Prelude.{ℕ, ◌+◌, ◌-◌, ◌==◌, not, Bool, true, false, List, [], ◌∷◌, ◌++◌, length, filter, reverse, Option, None, Some, option_and_then, option_map, option_to_list, if◌then◌else◌}
use Rattle.std.specs.Option.{option_or}
use Rattle.std.specs.Str.{bytes_eq}
use Rattle.std.specs.declared.ops.Range.{Range}
use Rattle.typst_kinds.specs.Head.{Head}
use Rattle.typst_kinds.specs.Kinds.{same}
use Rattle.typst_kinds.specs.declared.kind.SyntaxKind.{SyntaxKind}
use Rattle.typst_kinds.specs.declared.kind.SyntaxKind.TheVariants as node
use Rattle.typst_tree.specs.Tree.{Forest, none, more, Tree, saturated}
use Rattle.typst_names.specs.Bytes.{inner, behind}
use Rattle.typst_names.specs.Selections.{holds}
use Rattle.typst_features.specs.declared.naming.Mention.{Mention}
use Rattle.typst_features.specs.declared.naming.MentionKind.{MentionKind}
use Rattle.typst_features.specs.declared.naming.MentionKind.TheVariants as stands

-- what mentions a name: a label in markup or a reference, its bytes with its marks, and the name
pub record Mentioned : Type 0 where
  pub kind : MentionKind
  pub range : Range ℕ
  pub name : List ℕ

-- one of the code, by what it borrows
abbrev pub mentioned : Mention → Mentioned
mentioned m = record { kind = m.kind; range = m.range; name = m.name.now }

-- ---- what a node mentions

-- a text without the byte c at its front, if it has that
abbrev pub without_first : ℕ → List ℕ → Option (List ℕ)
without_first c [] = None
without_first c (x ∷ xs) = if x == c then Some xs else None

-- and at its end
abbrev pub without_last : ℕ → List ℕ → Option (List ℕ)
without_last c text = option_map reverse (without_first c (reverse text))

-- what stands between `<` (60) and `>` (62)
abbrev pub in_brackets : List ℕ → Option (List ℕ)
in_brackets text = option_and_then (without_last 62) (without_first 60 text)

-- the name of a label; other nodes have none
abbrev pub label_name : SyntaxKind → List ℕ → Option (List ℕ)
label_name node.Label text = in_brackets text
label_name _ text = None

-- the name that a node mentions: a label its own, a reference what follows its `@` (64)
abbrev pub name_of : SyntaxKind → List ℕ → Option (List ℕ)
name_of node.Label text = in_brackets text
name_of node.RefMarker text = without_first 64 text
name_of _ text = None

-- a label defines its name where its parent is markup; elsewhere it refers to it
abbrev pub label_kind : Bool → MentionKind
label_kind in_markup = if in_markup then stands.Label else stands.Reference

abbrev pub kind_of : SyntaxKind → Bool → MentionKind
kind_of node.Label in_markup = label_kind in_markup
kind_of _ in_markup = stands.Reference

-- the bytes of a node's own text, which begins at byte a
abbrev pub own_bytes : ℕ → Head → Range ℕ
own_bytes a h = record { start = a; end = inner a h }

-- what a node that begins at byte a mentions itself, by whether its parent is markup
abbrev pub own : Bool → ℕ → Head → Option Mentioned
own in_markup a h = option_map (λ name. record { kind = kind_of h.kind in_markup; range = own_bytes a h; name = name }) (name_of h.kind h.text)

abbrev pub is_markup : SyntaxKind → Bool
is_markup k = same node.Markup k

-- what trees side by side from byte a on mention, by whether their parent is markup
abbrev pub row : Bool → ℕ → Forest → List Mentioned
row in_markup a none = []
row in_markup a (more h ks r) = option_to_list (own in_markup a h) ++ (row (is_markup h.kind) (inner a h) ks ++ row in_markup (behind a h ks) r)

-- THE MENTIONS of a tree, in order. Its root has no parent
abbrev pub mentions : Tree → List Mentioned
mentions t = row false 0 (more t.head t.kids none)

-- ---- which one is meant

-- a mention, if it holds byte b
abbrev pub if_holds : ℕ → Mentioned → Option Mentioned
if_holds b m = if holds b m.range then Some m else None

-- the first of some mentions that holds byte b
abbrev pub holding : ℕ → List Mentioned → Option Mentioned
holding b [] = None
holding b (m ∷ ms) = option_or (if_holds b m) (holding b ms)

-- a mention, if it ends at byte b
abbrev pub if_ends : ℕ → Mentioned → Option Mentioned
if_ends b m = if m.range.end == b then Some m else None

-- THE MENTION AT A BYTE: the one that holds the byte, or else the one that holds the byte before it and ends there
abbrev pub mention_at : Tree → ℕ → Option Mentioned
mention_at t b = option_or (holding b (mentions t)) (option_and_then (if_ends b) (holding (b - 1) (mentions t)))

-- a mention has a name
abbrev pub is_of : List ℕ → Mentioned → Bool
is_of name m = bytes_eq m.name name

-- the mentions that have a name
abbrev pub of_name : List ℕ → List Mentioned → List Mentioned
of_name name ms = filter (is_of name) ms

-- the mentions that have the name of a given one, or none where none is given
abbrev pub alike : List Mentioned → Option Mentioned → List Mentioned
alike ms None = []
alike ms (Some m) = of_name m.name ms

-- THE MENTIONS OF THE NAME that is mentioned at a byte
abbrev pub highlights : Tree → ℕ → List Mentioned
highlights t b = alike (mentions t) (mention_at t b)

abbrev pub is_label : MentionKind → Bool
is_label stands.Label = true
is_label stands.Reference = false

-- THE DEFINITIONS of that name: its labels in markup
abbrev pub definitions : Tree → ℕ → List Mentioned
definitions t b = filter (λ m. is_label m.kind) (highlights t b)

-- THE REFERENCES to it
abbrev pub references : Tree → ℕ → List Mentioned
references t b = filter (λ m. not (is_label m.kind)) (highlights t b)

-- the bytes of the name alone, after the one mark before it
abbrev pub name_range : Mentioned → Range ℕ
name_range m = record { start = saturated (m.range.start + 1); end = saturated (saturated (m.range.start + 1) + length m.name) }
