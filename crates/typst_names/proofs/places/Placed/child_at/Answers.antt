use Rattle.typst_names.proofs.Cited.{◌≡◌, ◌+◌, ◌∷◌, ◌∙◌, ap, sym, arith, drop, common_steps, drop_more, forest, kid_at, behind}
use Rattle.typst_names.proofs.HoldingNodes.{around-passed, around-held, kid-passed, kid-held}
use Rattle.typst_names.proofs.places.Placed.child_at.Goals as goal

pub returns-then-holds-clause-kid : goal.returns-then-holds-clause-kid
returns-then-holds-clause-kid c =
    let b = c.args.byte in
    let a = c.loop-node.start in
    let items = c.children-node-items.result.now in
    let i = c.loop-node.node-index in
    let t = c.node-item.result in
    let left : drop i items ≡ t ∷ drop (i + 1) items = drop_more items i t c.loop-node-test.true ∙ ap (λ x. x ∷ drop (i + 1) items) (sym c.node-item.is) in
    sym (ap (λ ts. kid_at b a (forest ts)) left ∙ kid-held b a t (forest (drop (i + 1) items)) (sym c.holds.ensures ∙ c.if-holds.true)) ∙ c.loop-node.invariant.kid

pub returns-then-holds-clause-around : goal.returns-then-holds-clause-around
returns-then-holds-clause-around c =
    grind (arith, common_steps, around-held c.args.byte c.loop-node.start c.node-item.result.head c.node-item.result.kids (forest (drop (c.loop-node.node-index + 1) c.children-node-items.result.now)) (sym c.holds.ensures ∙ c.if-holds.true))

pub loop-node-preserved : goal.loop-node-preserved
loop-node-preserved c =
    let b = c.args.byte in
    let a = c.loop-node.start in
    let items = c.children-node-items.result.now in
    let i = c.loop-node.node-index in
    let t = c.node-item.result in
    let left : drop i items ≡ t ∷ drop (i + 1) items = drop_more items i t c.loop-node-test.true ∙ ap (λ x. x ∷ drop (i + 1) items) (sym c.node-item.is) in
    let passed : kid_at b a (forest (drop i items)) ≡ kid_at b (behind a t.head t.kids) (forest (drop (i + 1) items)) =
    ap (λ ts. kid_at b a (forest ts)) left ∙ kid-passed b a t (forest (drop (i + 1) items)) (sym c.holds.ensures ∙ c.if-holds.false) in
    record {
      kid = ap (λ s. kid_at b s (forest (drop (i + 1) items))) c.end-start.ensures ∙ sym passed ∙ c.loop-node.invariant.kid;
      around = grind (arith, common_steps, around-passed c.args.byte c.loop-node.start c.node-item.result.head c.node-item.result.kids (forest (drop (c.loop-node.node-index + 1) c.children-node-items.result.now)) (sym c.holds.ensures ∙ c.if-holds.false));
      fewer = grind (arith, common_steps);
    }
