use Rattle.typst_tree.proofs.Cited.{◌≡◌, ℕ, ◌+◌, Some, ap, sym, ◌∙◌, arith, drop, None, forest, nodes, places, preorder, first_at, wanted}
use Rattle.typst_tree.proofs.Parents.{child_bounds}
use Rattle.typst_tree.proofs.Rows.{Over, over, passed_none}
use Rattle.typst_tree.proofs.WalksInPreorder.{within_self, within_in, found_below, found_here, found_next, turn}
use Rattle.typst_tree.proofs.search.Spot.+goes_to.Goals as goal
use Rattle.typst_tree.proofs.search.Spot.+goes_to.Goals.{After-index-row-at, then-not-passes_over+else-goes_to, else-not-passes_over}

pub returns-then-wants-clause-spot : goal.returns-then-wants-clause-spot
returns-then-wants-clause-spot t c = grind (arith, within_self)

pub loop-at-init : goal.loop-at-init
loop-at-init t c = grind (arith, found_below, passed_none)

-- the child that is looked at
here : (t : ℕ) (c : After-index-row-at t) → Over c.args.self.now.node.now c.args.self.now.number c.args.self.now.offset c.children-row.result.now c.loop-at.at.index c.loop-at.at.number c.loop-at.at.offset c.index-row-at.result
here t c = over c.args.self.now.node.now c.args.self.now.number _ _ _ _ _ _ c.children-row.ensures c.index-row-at.is c.loop-at-test.true c.loop-at.invariant.passed

pub passes_over-requires : goal.passes_over-requires
passes_over-requires t c = omega (arith, (here t (goal.at.passes_over-requires t c).After-index-row-at).fits, c.requires)

pub goes_to-requires : goal.goes_to-requires
goes_to-requires t c =
    let o = here t (goal.at.goes_to-requires t c).After-index-row-at in
    let bounds = child_bounds _ _ _ _ _ o.child in
    (omega (arith, c.decreases, bounds.from, bounds.to, ap nodes c.tree.ensures.node), omega (arith, o.fits, c.requires, c.tree.ensures.number, ap nodes c.tree.ensures.node))

pub returns-then-goes_to-clause-first : goal.returns-then-goes_to-clause-first
returns-then-goes_to-clause-first t c = λ _.
    let at = c.loop-at.at in
    let w = turn _ at.index c.index-row-at.result c.index-row-at.is c.loop-at-test.true in
    let found : first_at (wanted c.args.search.now) at.number at.offset (places c.index-row-at.result) ≡ Some c.goes_to.new.self.number =
    rw (sym c.tree.ensures.number, sym c.tree.ensures.offset, sym c.tree.ensures.node) (c.goes_to.ensures.first c.if-goes_to.true) in
    c.loop-at.invariant.found
    ∙ (ap (λ ys. first_at (wanted c.args.search.now) at.number at.offset (preorder (forest ys))) w.first
    ∙ sym (found_here (wanted c.args.search.now) at.number at.offset _ c.index-row-at.result (drop (at.index + 1) _) (sym found)))

pub returns-then-goes_to-clause-spot : goal.returns-then-goes_to-clause-spot
returns-then-goes_to-clause-spot t c = λ _.
    within_in _ _ _ _ _ _ _ _ _ (here t (goal.at.returns-then-goes_to-clause-spot t c).After-index-row-at).inside
    (rw (sym c.tree.ensures.number, sym c.tree.ensures.offset, sym c.tree.ensures.node) (c.goes_to.ensures.spot c.if-goes_to.true))

pub behind-at-requires-clause-counted : goal.behind-at-requires-clause-counted
behind-at-requires-clause-counted t c = omega (arith, (here t (goal.at.behind-at-requires-clause-counted t c).After-index-row-at).fits, c.requires)

pub loop-at-preserved : goal.loop-at-preserved
loop-at-preserved t c =
    let at = c.loop-at.at in
    let next = c.behind-at in
    let row = c.children-row.result.now in
    let x = c.index-row-at.result in
    let w = turn row at.index x c.index-row-at.is c.loop-at-test.true in
    let nothing : first_at (wanted c.args.search.now) c.loop-at.at.number c.loop-at.at.offset (places c.index-row-at.result) ≡ None = elim c.if-not-passes_over.branch [
      | then-not-passes_over+else-goes_to b ↦ rw (sym b.tree.ensures.number, sym b.tree.ensures.offset, sym b.tree.ensures.node) (b.goes_to.ensures.none b.if-goes_to.false)
      | else-not-passes_over b ↦ c.passes_over.ensures b.if-not-passes_over.false at.offset
    ] in
    record {
      found = c.loop-at.invariant.found
          ∙ (ap (λ ys. first_at (wanted c.args.search.now) at.number at.offset (preorder (forest ys))) w.first
          ∙ (found_next (wanted c.args.search.now) at.number at.offset next.result.number next.result.offset x (drop (at.index + 1) row) next.ensures.number next.ensures.offset nothing
          ∙ ap (λ i. first_at (wanted c.args.search.now) next.result.number next.result.offset (preorder (forest (drop i row)))) (sym next.ensures.index)));
      passed = rw (next.ensures.index, next.ensures.number, next.ensures.offset) (here t (goal.at.loop-at-preserved t c).After-index-row-at).next;
    }
