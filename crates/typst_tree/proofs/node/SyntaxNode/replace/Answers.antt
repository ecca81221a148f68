use Rattle.typst_tree.proofs.Cited.{common_steps, arith}
use Rattle.typst_tree.proofs.SpansAside.{trees_forest}
use Rattle.typst_tree.proofs.StepDown.{replaced_is, replaced_not}
use Rattle.typst_tree.proofs.MovedCounts.{Recounted, swapped_moved, recounted}
use Rattle.typst_tree.proofs.Marks.{Marks, swapped_marks}
use Rattle.typst_tree.proofs.node.SyntaxNode.replace.Goals as goal

pub totals_within-gone-requires-clause-within : goal.totals_within-gone-requires-clause-within
totals_within-gone-requires-clause-within c = let r = rw (← c.self.view_is, trees_forest) at c.requires.within in omega (arith, r, c.self.inside.kids.ok.0)

pub swap_children-requires-clause-within : goal.swap_children-requires-clause-within
swap_children-requires-clause-within c = let r = rw (← c.self.view_is, trees_forest) at c.requires.within in omega (arith, r, c.self.inside.kids.ok.0)

counted : (c : goal.After-as_slice-3) → Recounted c.self.inside.own c.as_slice-3.result.now c.totals_within-gone.result c.totals-come.result
counted c =
    let m =
    swapped_moved c.args.self.now c.in-Some.id c.self.inside.own.head c.self.inside.kids.items c.args.from c.args.to c.args.nodes.items c.swap_children.new.kids.items c.self.view_is c.requires.order c.requires.within c.in_default-swap_children.ensures.ok in
    grind (arith, common_steps, recounted)

pub recount-requires-clause-shorter : goal.recount-requires-clause-shorter
recount-requires-clause-shorter c = (counted c).shorter

pub recount-requires-clause-fewer : goal.recount-requires-clause-fewer
recount-requires-clause-fewer c = (counted c).fewer

pub recount-requires-clause-len : goal.recount-requires-clause-len
recount-requires-clause-len c = (counted c).len

marks : (c : goal.After-as_slice-3) → Marks c.self.inside.own c.as_slice-3.result.now c.totals_within-gone.result c.totals-come.result
marks c = grind (arith, swapped_marks)

pub recount-requires-clause-mark : goal.recount-requires-clause-mark
recount-requires-clause-mark c = marks c

pub recount-requires-clause-nodes : goal.recount-requires-clause-nodes
recount-requires-clause-nodes c = (counted c).nodes

pub invariant_of-self-2 : goal.invariant_of-self-2
invariant_of-self-2 c = grind (arith, common_steps, swapped_moved)

pub returns-in-Err-clause-refused : goal.returns-in-Err-clause-refused
returns-in-Err-clause-refused c = grind (arith, replaced_not)

pub returns-clause-ok : goal.returns-clause-ok
returns-clause-ok c = grind (arith, replaced_is)
