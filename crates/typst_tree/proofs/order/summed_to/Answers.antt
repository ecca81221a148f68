use Rattle.std.proofs.Common.{◌+◌, arith, drop}
use Rattle.typst_tree.proofs.Rows.{First, tree_at}
use Rattle.typst_tree.proofs.order.summed_to.Goals as goal
use Rattle.typst_tree.proofs.order.summed_to.Goals.{After-index-row-i}

here : (c : After-index-row-i) → First c.args.row.now c.loop-i.i c.index-row-i.result (drop (c.loop-i.i + 1) c.args.row.now)
here c = tree_at _ _ _ c.index-row-i.is (omega (arith, c.requires.within))

pub overflow_add-at : goal.overflow_add-at
overflow_add-at c =
    let w = here (goal.at.overflow_add-at c).After-index-row-i in
    omega (arith, c.descendants-at.ensures, w.counted, c.loop-i.invariant.number, w.all, c.requires.counted)

pub loop-i-preserved : goal.loop-i-preserved
loop-i-preserved c =
    let w = here (goal.at.loop-i-preserved c).After-index-row-i in
    record {
      within = omega (arith, w.within);
      number = omega (arith, c.descendants-at.ensures, w.counted, c.loop-i.invariant.number, w.all, c.requires.counted);
      offset = omega (arith, c.saturating_add-begin.ensures, c.len.ensures, w.long, c.loop-i.invariant.offset);
    }
