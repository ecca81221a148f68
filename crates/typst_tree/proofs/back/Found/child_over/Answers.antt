use Rattle.typst_tree.proofs.Cited.{common_steps, ◌-◌, arith}
use Rattle.typst_tree.proofs.FoundBelow.{under}
use Rattle.typst_tree.proofs.LastLeaf.{back}
use Rattle.typst_tree.proofs.LastFrom.{some_left}
use Rattle.typst_tree.proofs.back.Found.child_over.Goals as goal

pub overflow_sub-end : goal.overflow_sub-end
overflow_sub-end c =
    let o = c.args.self in
    let i = c.loop-end.invariant in
    let w = back 0 o.number o.node.now c.children-row.result.now c.loop-end.index c.loop-end.end _ _ (some_left c.loop-end.index o.number c.loop-end.end c.args.wanted c.children-row.result.now i.end_is c.requires.from i.after) i.bounded c.index-row-index.is i.end_is c.descendants-end.ensures i.counted in
    omega (arith, w.fits)

pub below-requires-clause-child : goal.below-requires-clause-child
below-requires-clause-child c =
    let o = c.args.self in
    let i = c.loop-end.invariant in
    let w = back 0 o.number o.node.now c.children-row.result.now c.loop-end.index c.loop-end.end _ _ (some_left c.loop-end.index o.number c.loop-end.end c.args.wanted c.children-row.result.now i.end_is c.requires.from i.after) i.bounded c.index-row-index.is i.end_is c.descendants-end.ensures i.counted in
    under o.node.now o.number (c.loop-end.index - 1) _ _ c.itself-itself.result c.children-row.result.now _ c.children-row.ensures c.index-row-index.is (omega (arith, i.bounded, some_left c.loop-end.index o.number c.loop-end.end c.args.wanted c.children-row.result.now i.end_is c.requires.from i.after)) w.number c.itself-itself.ensures.below

pub loop-end-preserved : goal.loop-end-preserved
loop-end-preserved c =
    let o = c.args.self in
    let i = c.loop-end.invariant in
    let w = back 0 o.number o.node.now c.children-row.result.now c.loop-end.index c.loop-end.end _ _ (some_left c.loop-end.index o.number c.loop-end.end c.args.wanted c.children-row.result.now i.end_is c.requires.from i.after) i.bounded c.index-row-index.is i.end_is c.descendants-end.ensures i.counted in
    grind (arith, common_steps)
