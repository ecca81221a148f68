-- What a linked node and a row of children stand for.
use Rattle.std.specs.Prelude.{List, map}
use Rattle.typst_tree.specs.Tree.{forest}
use Rattle.typst_tree.specs.Walks.{numbers}
use Rattle.typst_tree.specs.Steps.{At, at}
use Rattle.typst_tree.specs.declared.linked.LinkedNode.{LinkedNode}
use Rattle.typst_tree.specs.declared.linked.LinkedChildren.{LinkedChildren}

-- the node that a linked node is
abbrev pub linked : LinkedNode → At
linked a = record { root = a.root.now; number = a.number }

-- the children that are left
abbrev pub left : LinkedChildren → List At
left c = map (at c.root.now) (numbers c.number (forest c.rest.now))
