use Rattle.typst_tree.proofs.Cited.{◌+◌, ap, arith, drop, drop_of_length-le, sym, ◌∙◌, forest, preorder, first_at, holds_byte}
use Rattle.typst_tree.proofs.PassesOver.{byte_below, byte_first, byte_next, byte_none}
use Rattle.typst_tree.proofs.Rows.{Over, over, passed_front}
use Rattle.typst_tree.proofs.WalksInPreorder.{turn}
use Rattle.typst_tree.proofs.search.child_at.Goals as goal
use Rattle.typst_tree.proofs.search.child_at.Goals.{After-index-row-at}

pub loop-at-init : goal.loop-at-init
loop-at-init c = grind (arith, passed_front)

-- the child that is looked at
here : (c : After-index-row-at) → Over c.args.over.node.now c.args.over.number c.args.over.offset c.children-row.result.now c.loop-at.at.index c.loop-at.at.number c.loop-at.at.offset c.index-row-at.result
here c = over c.args.over.node.now c.args.over.number _ _ _ _ _ _ c.children-row.ensures c.index-row-at.is c.loop-at-test.true c.loop-at.invariant.passed

pub behind-next-requires-clause-counted : goal.behind-next-requires-clause-counted
behind-next-requires-clause-counted c = omega (arith, (here (goal.at.behind-next-requires-clause-counted c).After-index-row-at).fits, c.requires)

pub returns-then-byte-next-clause-kid : goal.returns-then-byte-next-clause-kid
returns-then-byte-next-clause-kid c =
    let at = c.loop-at.at in
    let o = here (goal.at.returns-then-byte-next-clause-kid c).After-index-row-at in
    let w = turn c.children-row.result.now at.index c.index-row-at.result c.index-row-at.is c.loop-at-test.true in
    let first = byte_first c.args.byte at.number at.offset c.behind-next.result.offset c.index-row-at.result (drop (at.index + 1) c.children-row.result.now) c.behind-next.ensures.offset (omega (arith, c.if-byte-next.true)) in
    let found = byte_below c.args.byte c.args.over.number c.args.over.offset c.args.over.node.now c.children-row.result.now c.children-row.ensures (omega (arith, c.loop-at-test.true))
    ∙ (c.loop-at.invariant.found ∙ (ap (λ ys. first_at (holds_byte c.args.byte) at.number at.offset (preorder (forest ys))) w.first ∙ first)) in
    rw (c.tree.ensures.node, c.tree.ensures.number, c.tree.ensures.offset, c.tree.ensures.index) (record { child = o.child; within = o.inside; found = found })

pub loop-at-preserved : goal.loop-at-preserved
loop-at-preserved c =
    let at = c.loop-at.at in
    let w = turn c.children-row.result.now at.index c.index-row-at.result c.index-row-at.is c.loop-at-test.true in
    let next = c.behind-next in
    record {
      found = c.loop-at.invariant.found
          ∙ (ap (λ ys. first_at (holds_byte c.args.byte) at.number at.offset (preorder (forest ys))) w.first
          ∙ (byte_next c.args.byte at.number at.offset next.result.number next.result.offset c.index-row-at.result (drop (at.index + 1) c.children-row.result.now) next.ensures.number next.ensures.offset (omega (arith, c.if-byte-next.false))
          ∙ ap (λ i. first_at (holds_byte c.args.byte) next.result.number next.result.offset (preorder (forest (drop i c.children-row.result.now)))) (sym next.ensures.index)));
      passed = rw (next.ensures.index, next.ensures.number, next.ensures.offset) (here (goal.at.loop-at-preserved c).After-index-row-at).next;
    }

pub returns-clause-none : goal.returns-clause-none
returns-clause-none c = grind (arith, byte_none, drop_of_length-le)
