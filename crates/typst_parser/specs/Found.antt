-- What a linked node that may be there stands for.
use Rattle.std.specs.Prelude.{Option, option_map}
use Rattle.typst_tree.specs.Steps.{At}
use Rattle.typst_tree.specs.Linked.{linked}
use Rattle.typst_tree.specs.declared.linked.LinkedNode.{LinkedNode}

-- the node that a linked node is, if there is one
abbrev pub linked_in : Option LinkedNode → Option At
linked_in node = option_map linked node
