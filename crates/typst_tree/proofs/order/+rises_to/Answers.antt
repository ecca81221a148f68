use Rattle.typst_tree.proofs.Cited.{◌+◌, ◌++◌, get_or, inl, inr, arith, refl, ap, sym, subst, option_to_list, cases_eq, count, AreInOrder, numbers_of, number_at}
use Rattle.typst_tree.proofs.OrderBelow.{nodes_within, order_own, order_child, order_at, order_node_but}
use Rattle.typst_tree.proofs.order.+rises_to.Goals as goal

pub returns-then-not-is_before : goal.returns-then-not-is_before
returns-then-not-is_before t c = grind (arith, order_own)

pub rises_to-requires : goal.rises_to-requires
rises_to-requires t c = grind (arith, nodes_within)

pub returns-then-not-rises_to : goal.returns-then-not-rises_to
returns-then-not-rises_to t c = (
  λ h. absurd (cc),
  λ e. c.if-not-rises_to.ensures.1 (order_child c.loop-node.node.now c.children-row.result.now c.loop-node.limit c.number_at-in-loop-i.result c.loop-i.i c.index-row-i.result c.children-row.ensures c.index-row-i.is (omega arith) c.number_at-in-loop-i.ensures (c.loop-node.invariant.there e)),
)

pub loop-i-preserved : goal.loop-i-preserved
loop-i-preserved t c = λ k d p q.
    let xs = c.children-row.result.now in
    let i = c.loop-i.i in
    let here : AreInOrder (numbers_of (get_or xs i d) ++ option_to_list (number_at xs (i + 1) c.loop-node.limit)) = order_at xs c.loop-node.limit c.number_at-in-loop-i.result i c.index-row-i.result d c.index-row-i.is (omega arith) c.number_at-in-loop-i.ensures (c.if-not-rises_to.ensures.0 refl) in
    elim (cases_eq k i) [
      | inl e ↦ subst (λ j. AreInOrder (numbers_of (get_or xs j d) ++ option_to_list (number_at xs (j + 1) c.loop-node.limit))) (sym e) here
      | inr n ↦ c.loop-i.invariant k d (omega (arith, p, n)) q
    ]

pub returns-then-last-row : goal.returns-then-last-row
returns-then-last-row t c = (
  λ h.
      c.loop-node.invariant.back (order_node_but c.loop-node.node.now c.children-row.result.now c.loop-node.limit c.last_to_go-last.result c.children-row.ensures
      (rw c.number_at.ensures at (c.if-not-is_before.ensures.0 refl))
      (λ k d p q. c.loop-i.invariant k d (omega (arith, p)) q)
      (λ d p. absurd (omega (arith, p)))),
  λ e. refl,
)

pub loop-node-smaller : goal.loop-node-smaller
loop-node-smaller t c = grind (arith, nodes_within)

pub loop-node-preserved : goal.loop-node-preserved
loop-node-preserved t c =
    record {
      size = omega (arith, nodes_within c.children-row.result.now _ _ c.index-row-last.is (omega arith), ap count c.children-row.ensures, c.loop-node.invariant.size);
      there = λ e. order_child c.loop-node.node.now _ c.loop-node.limit c.number_at-limit.result _ c.index-row-last.result c.children-row.ensures c.index-row-last.is (omega arith) c.number_at-limit.ensures (c.loop-node.invariant.there e);
      back = λ e.
          c.loop-node.invariant.back (order_node_but c.loop-node.node.now _ c.loop-node.limit _ c.children-row.ensures
          (rw c.number_at.ensures at (c.if-not-is_before.ensures.0 refl))
          (λ k d p q. c.loop-i.invariant k d (omega (arith, p)) q)
          (λ d p. order_at _ c.loop-node.limit c.number_at-limit.result _ c.index-row-last.result d c.index-row-last.is p c.number_at-limit.ensures e));
    }
