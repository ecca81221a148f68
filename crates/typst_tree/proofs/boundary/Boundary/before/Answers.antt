use Rattle.std.proofs.Common.{arith}
use Rattle.typst_tree.proofs.Boundaries.{Backward, backward}
use Rattle.typst_tree.proofs.Rows.{length_row}
use Rattle.typst_tree.proofs.boundary.Boundary.before.Goals as goal
use Rattle.typst_tree.proofs.boundary.Boundary.before.Goals.{After-index-row-index}

pub bounds-row-index : goal.bounds-row-index
bounds-row-index c = omega (arith, c.requires.some, c.requires.boundary.within, length_row c.children-row.result.now c.args.root.now.kids c.children-row.ensures)

pub offset_bounds-row-index : goal.offset_bounds-row-index
offset_bounds-row-index c = omega (arith, c.requires.some, c.requires.boundary.within, length_row c.children-row.result.now c.args.root.now.kids c.children-row.ensures, c.children-row.type_inv)

-- the child that is passed
here : (c : After-index-row-index) → Backward c.args.root.now c.args.self c.index-row-index.result
here c = backward c.args.root.now c.args.self c.children-row.result.now c.index-row-index.result c.requires.counted c.requires.boundary c.requires.some c.children-row.ensures c.index-row-index.is

pub overflow_sub-result : goal.overflow_sub-result
overflow_sub-result c = omega (arith, (here (goal.at.overflow_sub-result c).After-index-row-index).counts, c.descendants.ensures)

pub overflow_sub-result-2 : goal.overflow_sub-result-2
overflow_sub-result-2 c = omega (arith, (here (goal.at.overflow_sub-result-2 c).After-index-row-index).lengths, c.len.ensures)

pub returns-clause-boundary : goal.returns-clause-boundary
returns-clause-boundary c =
    let s = here (goal.at.returns-clause-boundary c).After-index-row-index in
    record {
      within = omega (arith, c.requires.boundary.within);
      nodes = omega (arith, s.counts, s.counted, c.descendants.ensures);
      bytes = omega (arith, s.lengths, s.measured, c.len.ensures);
    }
