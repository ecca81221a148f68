use Rattle.typst_tree.proofs.Cited.{common_steps, ◌≡◌, ◌+◌, ◌-◌, min, Some, ap, sym, ◌∙◌, arith, nodes, in_order_of, IsBelow, last_of}
use Rattle.typst_tree.proofs.FoundBelow.{inside, under}
use Rattle.typst_tree.proofs.LastLeaf.{back, last_none, last_alone}
use Rattle.typst_tree.proofs.LastFrom.{finds_same, last_end, last_first, last_heavy, last_in, last_lift, last_past}
use Rattle.typst_tree.proofs.back.Found.+last_leaf.Goals as goal

pub last_leaf-loop-found-init : goal.last_leaf-loop-found-init
last_leaf-loop-found-init t c = grind (arith, last_end)

pub last_leaf-look_back-requires : goal.last_leaf-look_back-requires
last_leaf-look_back-requires t c =
    let n = inside c.args.self.number 0 c.args.self.node.now c.loop-found.way.number c.loop-found.way.begins c.loop-found.way.node.now c.loop-found.invariant.below.within in
    (omega (arith, c.decreases, c.loop-found.invariant.size), (omega (arith, n.to, c.requires.counted), c.loop-found.invariant.begun))

pub last_leaf-returns-in-Leaf : goal.last_leaf-returns-in-Leaf
last_leaf-returns-in-Leaf t c =
    let o = c.args.self in
    let f = c.loop-found.way in
    let i = c.loop-found.invariant in
    (i.same ∙ (last_in c.loop-found.until c.in-Leaf.found.number o f i.below i.ends c.in-Leaf.ensures.0 ∙ ap (λ k. Some k) (sym c.with.ensures.number)), c.with.ensures.below o.node.now o.number _ i.below)

pub last_leaf-last_before-requires : goal.last_leaf-last_before-requires
last_leaf-last_before-requires t c =
    let n = inside c.args.self.number 0 c.args.self.node.now c.loop-found.way.number c.loop-found.way.begins c.loop-found.way.node.now c.loop-found.invariant.below.within in
    (omega (arith, c.decreases), (c.requires.counted, (n.from, omega (arith, n.to))))

pub last_leaf-returns-in-Nothing : goal.last_leaf-returns-in-Nothing
last_leaf-returns-in-Nothing t c = grind (arith, finds_same, last_past)

pub last_leaf-loop-found-preserved : goal.last_leaf-loop-found-preserved
last_leaf-loop-found-preserved t c =
    let o = c.args.self in
    let f = c.loop-found.way in
    let h = c.in-Heavy.ensures in
    let i = c.loop-found.invariant in
    let a = c.with-way.ensures in
    let in_all = inside o.number 0 o.node.now f.number f.begins f.node.now i.below.within in
    let n = inside f.number 0 f.node.now c.in-Heavy.kid.number c.in-Heavy.kid.begins c.in-Heavy.kid.node.now h.1.within in
    let many : c.descendants-in-Heavy.result ≡ nodes c.in-Heavy.kid.node.now = omega (arith, c.descendants-in-Heavy.ensures, n.to, in_all.to, c.requires.counted) in
    let until : min c.loop-found.until (c.in-Heavy.kid.number + nodes c.in-Heavy.kid.node.now) ≡ c.min-until-in-Heavy.result = omega (arith, c.min-until-in-Heavy.ensures, many) in
    record {
      below = a.below o.node.now o.number _ i.below;
      begun = omega (arith, a.number, h.2, until);
      ends = omega (arith, a.number, ap nodes a.node, until);
      same = i.same ∙ last_lift c.loop-found.until c.min-until-in-Heavy.result o f i.below i.ends (omega (arith, until, i.ends)) (omega (arith, i.begun)) (omega (arith, until, n.from, i.begun)) (h.0 ∙ ap (λ m. last_of m f) until);
      size = omega (arith, i.size, h.3, ap nodes a.node);
    }

pub last_leaf-overflow_add-kid : goal.last_leaf-overflow_add-kid
last_leaf-overflow_add-kid t c =
    let in_all = inside c.args.self.number 0 c.args.self.node.now c.loop-found.way.number c.loop-found.way.begins c.loop-found.way.node.now c.loop-found.invariant.below.within in
    let n = inside c.loop-found.way.number 0 c.loop-found.way.node.now c.in-Heavy.kid.number c.in-Heavy.kid.begins c.in-Heavy.kid.node.now c.in-Heavy.ensures.1.within in
    omega (arith, c.descendants-in-Heavy.ensures, n.to, in_all.to, c.requires.counted)

pub last_before-last_before-requires : goal.last_before-last_before-requires
last_before-last_before-requires t c =
    let e = c.towards-below.ensures in
    let n = inside c.args.self.number 0 c.args.self.node.now c.towards-below.result.number c.towards-below.result.begins c.towards-below.result.node.now e.below.within in
    (omega (arith, c.decreases, n.from, n.to, c.if-below-self.false), (omega (arith, n.to, c.requires.counted), (omega (arith, e.from), omega (arith, e.to))))

pub last_before-returns-in-Some : goal.last_before-returns-in-Some
last_before-returns-in-Some t c =
    let o = c.args.self in
    let b = c.towards-below.result in
    let e = c.towards-below.ensures in
    (c.loop-left.invariant.same ∙ (last_in c.loop-left.until c.in-Some.found.number o b e.below (omega (arith, e.to)) c.in-Some.ensures.0 ∙ ap (λ k. Some k) (sym c.with.ensures.number)), c.with.ensures.below o.node.now o.number _ e.below)

pub last_before-loop-left-preserved : goal.last_before-loop-left-preserved
last_before-loop-left-preserved t c = grind (arith, last_past)

pub last_before-returns-then-until-self-2 : goal.last_before-returns-then-until-self-2
last_before-returns-then-until-self-2 t c = grind (arith, last_first)

pub look_back-overflow_sub-end : goal.look_back-overflow_sub-end
look_back-overflow_sub-end t c =
    let o = c.args.self in
    let i = c.loop-index.invariant in
    let w = back c.args.before o.number o.node.now c.children-row.result.now c.loop-index.index c.loop-index.end _ _ c.loop-index-test.true i.bounded c.index-row-index.is i.end_is c.descendants-end.ensures i.counted in
    omega (arith, w.fits)

pub look_back-loop-index-preserved-then-before-end : goal.look_back-loop-index-preserved-then-before-end
look_back-loop-index-preserved-then-before-end t c =
    let o = c.args.self in
    let i = c.loop-index.invariant in
    let w = back c.args.before o.number o.node.now c.children-row.result.now c.loop-index.index c.loop-index.end _ _ c.loop-index-test.true i.bounded c.index-row-index.is i.end_is c.descendants-end.ensures i.counted in
    grind (arith, common_steps, last_none)

pub look_back-below-requires-clause-child : goal.look_back-below-requires-clause-child
look_back-below-requires-clause-child t c =
    let o = c.args.self in
    let i = c.loop-index.invariant in
    let w = back c.args.before o.number o.node.now c.children-row.result.now c.loop-index.index c.loop-index.end _ _ c.loop-index-test.true i.bounded c.index-row-index.is i.end_is c.descendants-end.ensures i.counted in
    under o.node.now o.number (c.loop-index.index - 1) _ c.in_order-in_order.result c.itself-kid.result c.children-row.result.now _ c.children-row.ensures c.index-row-index.is (omega (arith, i.bounded)) w.number c.itself-kid.ensures.below

pub look_back-returns-then-descendants-heavy : goal.look_back-returns-then-descendants-heavy
look_back-returns-then-descendants-heavy t c =
    let o = c.args.self in
    let i = c.loop-index.invariant in
    let w = back c.args.before o.number o.node.now c.children-row.result.now c.loop-index.index c.loop-index.end _ _ c.loop-index-test.true i.bounded c.index-row-index.is i.end_is c.descendants-end.ensures i.counted in
    grind (arith, common_steps, last_heavy)

pub look_back-last_leaf-requires : goal.look_back-last_leaf-requires
look_back-last_leaf-requires t c =
    let o = c.args.self in
    let i = c.loop-index.invariant in
    let w = back c.args.before o.number o.node.now c.children-row.result.now c.loop-index.index c.loop-index.end _ _ c.loop-index-test.true i.bounded c.index-row-index.is i.end_is c.descendants-end.ensures i.counted in
    let k = c.itself-kid.ensures in
    (omega (arith, c.decreases, w.counted, i.smaller, ap nodes k.node), (omega (arith, w.number, w.counted, i.counted, k.number, ap nodes k.node), omega (arith, k.number, c.if-before-end.false)))

pub look_back-below-requires-in-Some-clause-child : goal.look_back-below-requires-in-Some-clause-child
look_back-below-requires-in-Some-clause-child t c =
    let o = c.args.self in
    let i = c.loop-index.invariant in
    let w = back c.args.before o.number o.node.now c.children-row.result.now c.loop-index.index c.loop-index.end _ _ c.loop-index-test.true i.bounded c.index-row-index.is i.end_is c.descendants-end.ensures i.counted in
    let k = c.itself-kid.ensures in
    let f = c.in-Some.found in
    let found : IsBelow c.index-row-index.result (c.loop-index.end - c.descendants-end.result) (in_order_of c.itself-kid.result.known) f = rw (sym k.node, sym k.number) c.in-Some.ensures.1 in
    under o.node.now o.number (c.loop-index.index - 1) _ _ f c.children-row.result.now _ c.children-row.ensures c.index-row-index.is (omega (arith, i.bounded)) w.number found

pub look_back-returns-in-Some : goal.look_back-returns-in-Some
look_back-returns-in-Some t c =
    let o = c.args.self in
    let i = c.loop-index.invariant in
    let w = back c.args.before o.number o.node.now c.children-row.result.now c.loop-index.index c.loop-index.end _ _ c.loop-index-test.true i.bounded c.index-row-index.is i.end_is c.descendants-end.ensures i.counted in
    grind (arith, common_steps)

pub look_back-loop-index-preserved : goal.look_back-loop-index-preserved
look_back-loop-index-preserved t c =
    let o = c.args.self in
    let i = c.loop-index.invariant in
    let w = back c.args.before o.number o.node.now c.children-row.result.now c.loop-index.index c.loop-index.end _ _ c.loop-index-test.true i.bounded c.index-row-index.is i.end_is c.descendants-end.ensures i.counted in
    grind (arith, common_steps)

pub look_back-returns : goal.look_back-returns
look_back-returns t c = grind (arith, last_alone)
