use Rattle.typst_tree.proofs.Cited.{common_steps, ◌≡◌, ◌+◌, ap, arith, sym, ◌∙◌, nodes, leaf_after, linked}
use Rattle.typst_tree.proofs.Branches.{leaf_found, leaf_not_found, over_above, room}
use Rattle.typst_tree.proofs.NodesOfStretch.{stands_row}
use Rattle.typst_tree.proofs.Rows.{Over, over}
use Rattle.typst_tree.proofs.linked.LinkedNode.leaf_behind.Goals as goal
use Rattle.typst_tree.proofs.linked.LinkedNode.leaf_behind.Goals.{After-index-row-at}

pub behind-at-requires : goal.behind-at-requires
behind-at-requires c =
    let o = over_above c.args.self c.args.above c.children-row.result.now c.requires c.children-row.ensures in
    record { index = omega (arith, c.passed.ensures.index, o.next.within); counted = omega (arith, c.passed.ensures.number, room c.args.self) }

pub loop-at-init : goal.loop-at-init
loop-at-init c = let o = over_above c.args.self c.args.above c.children-row.result.now c.requires c.children-row.ensures in grind (arith, common_steps)

-- the child that is looked at
here : (c : After-index-row-at) → Over c.args.above.parent.node.now c.args.above.parent.number c.args.above.parent.offset c.children-row.result.now c.loop-at.at.index c.loop-at.at.number c.loop-at.at.offset c.index-row-at.result
here c = over c.args.above.parent.node.now c.args.above.parent.number _ _ _ _ _ _ c.children-row.ensures c.index-row-at.is c.loop-at-test.true c.loop-at.invariant.passed

pub child-kid-requires : goal.child-kid-requires
child-kid-requires c =
    let o = here (goal.at.child-kid-requires c).After-index-row-at in
    let t = c.tree.ensures in
    record {
      stands = rw (t.node, t.number, t.offset) (stands_row _ _ _ _ _ _ _ c.args.above.parent.stands o.inside);
      child = rw (t.node, t.number, t.index) o.child;
    }

pub returns-in-Some : goal.returns-in-Some
returns-in-Some c =
    let root : c.child-kid.result.root.now ≡ c.args.self.root.now = c.child-kid.ensures.root ∙ c.requires.root in
    let number : c.child-kid.result.number ≡ c.loop-at.at.number = c.child-kid.ensures.number ∙ c.tree.ensures.number in
    c.loop-at.invariant.found ∙ (ap (λ r. leaf_after r c.loop-at.at.number) (sym root)
    ∙ leaf_found c.child-kid.result c.loop-at.at.number (linked c.in-Some.leaf) (omega (arith, number)) (omega (arith, number)) c.in-Some.ensures)

pub behind-at-requires-in-loop-at-clause-counted : goal.behind-at-requires-in-loop-at-clause-counted
behind-at-requires-in-loop-at-clause-counted c = omega (arith, (here (goal.at.behind-at-requires-in-loop-at-clause-counted c).After-index-row-at).fits, room c.args.above.parent)

pub loop-at-preserved : goal.loop-at-preserved
loop-at-preserved c =
    let at = c.loop-at.at in
    let root : c.child-kid.result.root.now ≡ c.args.self.root.now = c.child-kid.ensures.root ∙ c.requires.root in
    let number : c.child-kid.result.number ≡ c.loop-at.at.number = c.child-kid.ensures.number ∙ c.tree.ensures.number in
    let next = c.behind-at-in-loop-at in
    let end : c.child-kid.result.number + nodes c.child-kid.result.node.now ≡ next.result.number = omega (arith, number, ap nodes (c.child-kid.ensures.node ∙ c.tree.ensures.node), next.ensures.number) in
    record {
      passed = rw (next.ensures.index, next.ensures.number, next.ensures.offset) (here (goal.at.loop-at-preserved c).After-index-row-at).next;
      found = c.loop-at.invariant.found ∙ (ap (λ r. leaf_after r at.number) (sym root)
          ∙ (leaf_not_found c.child-kid.result at.number (omega (arith, number)) (omega (arith, number)) c.in_default.ensures
          ∙ (ap (leaf_after c.child-kid.result.root.now) end ∙ ap (λ r. leaf_after r next.result.number) root)));
    }
