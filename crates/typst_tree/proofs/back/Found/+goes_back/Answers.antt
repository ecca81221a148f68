use Rattle.typst_tree.proofs.Cited.{◌≡◌, ℕ, ◌-◌, None, Some, ap, sym, ◌∙◌, arith, refl, nodes, places, last_leaf, IsBelow}
use Rattle.typst_tree.proofs.FoundBelow.{under}
use Rattle.typst_tree.proofs.LastLeaf.{Back, last_none, back, last_alone}
use Rattle.typst_tree.proofs.back.Found.+goes_back.Goals as goal
use Rattle.typst_tree.proofs.back.Found.+goes_back.Goals.{After-descendants-end}

pub returns-then-before-number-clause-none : goal.returns-then-before-number-clause-none
returns-then-before-number-clause-none t c = grind (arith, last_none)

-- the child that is looked at
here : (t : ℕ) (c : After-descendants-end t) → Back c.args.before c.args.self.now.number c.args.self.now.node.now c.children-row.result.now c.loop-index.index c.loop-index.end c.descendants-end.result c.index-row-index.result
here t c =
    let i = c.loop-index.invariant in
    back c.args.before c.args.self.now.number c.args.self.now.node.now c.children-row.result.now c.loop-index.index c.loop-index.end _ _ c.loop-index-test.true i.bounded c.index-row-index.is i.end_is c.descendants-end.ensures i.counted

pub overflow_sub-end : goal.overflow_sub-end
overflow_sub-end t c = omega (arith, (here t (goal.at.overflow_sub-end t c).After-descendants-end).fits)

pub loop-index-preserved-then-before-end : goal.loop-index-preserved-then-before-end
loop-index-preserved-then-before-end t c =
    let w = here t (goal.at.loop-index-preserved-then-before-end t c).After-descendants-end in
    let i = c.loop-index.invariant in
    record {
      bounded = omega (arith, i.bounded);
      last = i.last ∙ (w.last ∙ rw (last_none c.args.before (c.loop-index.end - c.descendants-end.result) (places c.index-row-index.result) (omega (arith, c.if-before-end.true))) refl);
      end_is = w.number;
      counted = omega (arith, w.counted, i.counted);
      smaller = omega (arith, w.counted, i.smaller);
    }

pub goes_back-requires : goal.goes_back-requires
goes_back-requires t c =
    let w = here t (goal.at.goes_back-requires t c).After-descendants-end in
    let i = c.loop-index.invariant in
    (omega (arith, c.decreases, w.counted, i.smaller, ap nodes c.itself.ensures.node), omega (arith, w.number, w.counted, i.counted, c.itself.ensures.number, ap nodes c.itself.ensures.node))

pub below-requires-clause-child : goal.below-requires-clause-child
below-requires-clause-child t c =
    let w = here t (goal.at.below-requires-clause-child t c).After-descendants-end in
    let found : IsBelow c.index-row-index.result (c.loop-index.end - c.descendants-end.result) c.args.in_order c.goes_back.new.self = rw (sym c.itself.ensures.node, sym c.itself.ensures.number) (c.goes_back.ensures.below c.if-goes_back.true) in
    under c.args.self.now.node.now _ (c.loop-index.index - 1) _ c.args.in_order c.goes_back.new.self c.children-row.result.now _ c.children-row.ensures c.index-row-index.is (omega (arith, c.loop-index.invariant.bounded)) w.number found

pub returns-then-goes_back-clause-found : goal.returns-then-goes_back-clause-found
returns-then-goes_back-clause-found t c = λ _.
    let w = here t (goal.at.returns-then-goes_back-clause-found t c).After-descendants-end in
    let found : last_leaf c.args.before (c.loop-index.end - c.descendants-end.result) (places c.index-row-index.result) ≡ Some c.goes_back.new.self.number = rw (sym c.itself.ensures.node, sym c.itself.ensures.number) (c.goes_back.ensures.found c.if-goes_back.true) in
    c.loop-index.invariant.last ∙ (w.last ∙ rw found (ap (λ k. Some k) (sym c.below.ensures.number)))

pub loop-index-preserved : goal.loop-index-preserved
loop-index-preserved t c =
    let w = here t (goal.at.loop-index-preserved t c).After-descendants-end in
    let i = c.loop-index.invariant in
    let nothing : last_leaf c.args.before (c.loop-index.end - c.descendants-end.result) (places c.index-row-index.result) ≡ None = rw (sym c.itself.ensures.node, sym c.itself.ensures.number) (c.goes_back.ensures.none c.if-goes_back.false) in
    record {
      bounded = omega (arith, i.bounded);
      last = i.last ∙ (w.last ∙ rw nothing refl);
      end_is = w.number;
      counted = omega (arith, w.counted, i.counted);
      smaller = omega (arith, w.counted, i.smaller);
    }

pub returns-clause-none : goal.returns-clause-none
returns-clause-none t c = grind (arith, last_alone)
