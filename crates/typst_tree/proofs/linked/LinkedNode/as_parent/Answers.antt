use Rattle.typst_tree.proofs.Cited.{ap, sym, long, nat_lt}
use Rattle.typst_tree.proofs.Rows.{length_row}
use Rattle.typst_tree.proofs.linked.LinkedNode.as_parent.Goals as goal

pub invariant_of-result : goal.invariant_of-result
invariant_of-result c = record { many = ap (nat_lt long) (sym (length_row _ _ c.children.ensures)) }
