use Rattle.std.proofs.Common.{arith}
use Rattle.typst_tree.proofs.Boundaries.{Onward, onward}
use Rattle.typst_tree.proofs.Rows.{length_row}
use Rattle.typst_tree.proofs.boundary.Boundary.after.Goals as goal
use Rattle.typst_tree.proofs.boundary.Boundary.after.Goals.{After-index-row-self}

pub bounds-row-self : goal.bounds-row-self
bounds-row-self c = omega (arith, c.requires.more, length_row c.children-row.result.now c.args.root.now.kids c.children-row.ensures)

pub offset_bounds-row-self : goal.offset_bounds-row-self
offset_bounds-row-self c = omega (arith, c.requires.more, length_row c.children-row.result.now c.args.root.now.kids c.children-row.ensures, c.children-row.type_inv)

-- the child that is passed
here : (c : After-index-row-self) → Onward c.args.root.now c.args.self c.index-row-self.result
here c = onward c.args.root.now c.args.self c.children-row.result.now c.index-row-self.result c.requires.counted c.requires.boundary c.requires.more c.children-row.ensures c.index-row-self.is

pub overflow_add-result : goal.overflow_add-result
overflow_add-result c = omega (arith, (here (goal.at.overflow_add-result c).After-index-row-self).indexed)

pub overflow_add-result-2 : goal.overflow_add-result-2
overflow_add-result-2 c = omega (arith, (here (goal.at.overflow_add-result-2 c).After-index-row-self).counted, c.descendants.ensures)

pub overflow_add-result-3 : goal.overflow_add-result-3
overflow_add-result-3 c = omega (arith, (here (goal.at.overflow_add-result-3 c).After-index-row-self).measured, c.len.ensures)

pub returns-clause-boundary : goal.returns-clause-boundary
returns-clause-boundary c =
    let s = here (goal.at.returns-clause-boundary c).After-index-row-self in
    record {
      within = omega (arith, c.requires.more);
      nodes = omega (arith, s.counts, s.counted, c.descendants.ensures);
      bytes = omega (arith, s.lengths, s.measured, c.len.ensures);
    }
