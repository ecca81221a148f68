-- The highlight tag of a node of a tree.
use Rattle.std.specs.Prelude.{ℕ, zero, suc, ◌+◌, Option, None, Some, option_and_then, if◌then◌else◌}
use Rattle.std.specs.Option.{option_map}
use Rattle.typst_kinds.specs.declared.kind.SyntaxKind.{SyntaxKind}
use Rattle.typst_kinds.specs.Kinds.{is_hash_expr}
use Rattle.typst_tree.specs.Tree.{nodes}
use Rattle.typst_tree.specs.Steps.{At, kind_of, offset_of, end_of, parent, next_sibling, prev_leaf, next_leaf, leftmost_leaf}
use Rattle.typst_highlight.specs.declared.tags.Tag.{Tag}
use Rattle.typst_highlight.specs.declared.rules.Rule.{Rule}
use Rattle.typst_highlight.specs.declared.rules.Rule.TheVariants as rule
use Rattle.typst_highlight.specs.declared.context.Ahead.{Ahead}
use Rattle.typst_highlight.specs.declared.context.Surroundings.{Surroundings}
use Rattle.typst_highlight.specs.Rules.{rule_of, paren_tag, star_tag, underscore_tag, slash_tag, equals_tag, term_tag, is_name, is_field_access, is_dot}
use Rattle.typst_highlight.specs.Names.{first_tag, name_alone}

-- the kind of a node, if there is one
abbrev pub kind_if : Option At → Option SyntaxKind
kind_if a = option_map kind_of a

-- the kind of the leaf before a node
abbrev pub kind_before : At → Option SyntaxKind
kind_before a = kind_if (prev_leaf a)

-- a leaf as the name before it sees it
abbrev pub described : At → Ahead
described a = record { kind = kind_of a; parent = kind_if (parent a); offset = offset_of a }

-- a parent that is a field access
abbrev pub access : Option At → Option At
access None = None
access (Some p) = if is_field_access (kind_of p) then Some p else None

abbrev pub from_or : At → (At → At) → Option At → At
from_or a f None = a
from_or a f (Some p) = f p

-- the node, or the outermost of the field accesses above it, of which at most n are passed
abbrev pub outermost : ℕ → At → At
outermost zero a = a
outermost (suc n) a = from_or a (outermost n) (access (parent a))

-- what is around a name
abbrev pub surroundings : At → Surroundings
surroundings a =
    let outer : At = outermost a.number a in
    record {
      kind = kind_of a;
      end = end_of a;
      next = option_map described (next_leaf a);
      around = kind_if (parent outer);
      lead = kind_before outer;
      before = kind_before a;
    }

-- a leaf that is a name
abbrev pub named : At → Option At
named a = if is_name (kind_of a) then Some a else None

-- the name before a dot
abbrev pub name_before : At → Option At
name_before dot = if is_dot (kind_of dot) then option_and_then named (prev_leaf dot) else None

-- the name before the dot before a name
abbrev pub earlier_name : At → Option At
earlier_name a = option_and_then name_before (prev_leaf a)

-- the tag of a name, where at most n names joined by dots are looked at: its own, or that of the name before the dot before it
abbrev pub name_tag : ℕ → At → Option Tag
name_tag zero a = None
name_tag (suc n) a = first_tag (name_alone (surroundings a)) (option_and_then (name_tag n) (earlier_name a))

-- the first leaf of a node that may follow a hash
abbrev pub leaf_of : At → Option At
leaf_of a = if is_hash_expr (kind_of a) then leftmost_leaf a else None

-- the leaf whose tag a hash has
abbrev pub expression_leaf : At → Option At
expression_leaf a = option_and_then leaf_of (next_sibling a)

-- the tag of a node by its rule, and, where that asks for it, by the tag of the expression after the node
abbrev pub tag_by : Rule → At → Option Tag → Option Tag
tag_by (rule.Fixed t) a e = t
tag_by rule.Paren a e = paren_tag (kind_if (parent a))
tag_by rule.Star a e = star_tag (kind_if (parent a))
tag_by rule.Underscore a e = underscore_tag (kind_if (parent a))
tag_by rule.Slash a e = slash_tag (kind_if (parent a))
tag_by rule.Equals a e = equals_tag (kind_if (parent a))
tag_by rule.Term a e = term_tag (kind_if (parent a)) (kind_if (next_sibling a))
tag_by rule.Name a e = name_tag (a.number + 1) a
tag_by rule.Expression a e = e

-- the tag of a node, where at most n hashes lead from one to the next
abbrev pub tag_within : ℕ → At → Option Tag
tag_within zero a = None
tag_within (suc n) a = tag_by (rule_of (kind_of a)) a (option_and_then (tag_within n) (expression_leaf a))

-- the tag of a node
abbrev pub tag_of : At → Option Tag
tag_of a = tag_within (nodes a.root) a
