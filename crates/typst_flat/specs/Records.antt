-- The records of a tree's nodes.
use Rattle.std.specs.Prelude.{ℕ, Bool, ◌&&◌, nat_le, List, [], ◌∷◌, map, Option, None, Some}
use Rattle.std.specs.List.{filter}
use Rattle.typst_kinds.specs.Members.{place_of}
use Rattle.typst_kinds.specs.Span.{packed}
use Rattle.typst_tree.specs.Tree.{Tree, nodes}
use Rattle.typst_tree.specs.Steps.{At, at, node_of, offset_of, end_of, parent}
use Rattle.typst_highlight.specs.Nodes.{tag_of}
use Rattle.typst_highlight.specs.Spans.{numbers_from}
use Rattle.typst_flat.specs.Codes.{cut, tag_code, flags_of}
use Rattle.typst_flat.specs.declared.records.Node.{Node}
use Rattle.typst_flat.specs.declared.records.Stretch.{Stretch}

-- all nodes of a tree in preorder
abbrev pub all_of : Tree → List At
all_of root = map (at root) (numbers_from 0 (nodes root))

abbrev pub number_if : Option At → ℕ
number_if None = 0
number_if (Some p) = p.number

-- the record of a node
abbrev pub node_record : At → Node
node_record a = record {
  span = packed (node_of a).head.span;
  start = cut (offset_of a);
  end = cut (end_of a);
  number = cut a.number;
  nodes = cut (nodes (node_of a));
  parent = cut (number_if (parent a));
  kind = place_of (node_of a).head.kind;
  tag = tag_code (tag_of a);
  flags = flags_of (node_of a).head;
  spare = 0;
}

-- the node and the stretch have a byte or an end in common
abbrev pub meets : Stretch → At → Bool
meets s a = nat_le (offset_of a) s.end && nat_le s.start (end_of a)

-- the records of a tree
abbrev pub records : Tree → List Node
records root = map node_record (all_of root)

-- the nodes that meet a stretch
abbrev pub met_in : Stretch → Tree → List At
met_in s root = filter (meets s) (all_of root)

-- the records of these
abbrev pub records_in : Stretch → Tree → List Node
records_in s root = map node_record (met_in s root)

-- an array into which a list was put, as far as it fits
abbrev pub filled : {A : Type 0} → List A → List A → List A
filled [] old = old
filled (x ∷ xs) [] = []
filled (x ∷ xs) (y ∷ old) = x ∷ filled xs old
