use Rattle.typst_tree.proofs.Cited.{ap, arith, nodes}
use Rattle.typst_tree.proofs.Rows.{Over, over, passed_inside}
use Rattle.typst_tree.proofs.search.child_over.Goals as goal
use Rattle.typst_tree.proofs.search.child_over.Goals.{After-index-row-at}

-- the child that is looked at
here : (c : After-index-row-at) → Over c.args.over.node.now c.args.over.number c.args.over.offset c.children-row.result.now c.loop-at.at.index c.loop-at.at.number c.loop-at.at.offset c.index-row-at.result
here c =
    over c.args.over.node.now c.args.over.number _ _ _ _ _ _ c.children-row.ensures c.index-row-at.is
    (passed_inside c.args.over.node.now c.args.over.number _ _ _ _ c.args.wanted _ c.children-row.ensures c.loop-at.invariant.passed c.loop-at.invariant.before c.requires.to) c.loop-at.invariant.passed

pub overflow_add-at : goal.overflow_add-at
overflow_add-at c = omega (arith, c.descendants.ensures, (here (goal.at.overflow_add-at c).After-index-row-at).fits, c.requires.counted)

pub returns-then-wanted-at : goal.returns-then-wanted-at
returns-then-wanted-at c =
    let o = here (goal.at.returns-then-wanted-at c).After-index-row-at in
    let t = c.tree.ensures in
    record {
      child = rw (t.node, t.number, t.index) o.child;
      spot = rw (t.node, t.number, t.offset) o.inside;
      from = omega (arith, t.number, c.loop-at.invariant.before);
      to = omega (arith, t.number, ap nodes t.node, c.descendants.ensures, c.if-wanted-at.true);
    }

pub loop-at-preserved : goal.loop-at-preserved
loop-at-preserved c =
    let o = here (goal.at.loop-at-preserved c).After-index-row-at in
    record {
      passed = rw (c.behind-at.ensures.index, c.behind-at.ensures.number, c.behind-at.ensures.offset) o.next;
      before = omega (arith, c.behind-at.ensures.number, c.descendants.ensures, c.if-wanted-at.false, o.fits, c.requires.counted);
    }
