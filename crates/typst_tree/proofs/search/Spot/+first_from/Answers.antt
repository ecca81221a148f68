use Rattle.typst_tree.proofs.Cited.{common_steps, ◌≡◌, None, ap, arith, nodes, saturated, IsIn, FoundFrom, first_of, wanted}
use Rattle.typst_tree.proofs.Rows.{all_counted, over}
use Rattle.typst_tree.proofs.WalksInPreorder.{found_self, within_self, within_in}
use Rattle.typst_tree.proofs.FoundFrom.{among, found_in, from_below, from_either, from_less, from_none, from_on, from_own, from_past, from_past_own}
use Rattle.typst_tree.proofs.search.Spot.+first_from.Goals as goal

pub first_from-loop-spot-init : goal.first_from-loop-spot-init
first_from-loop-spot-init t c = grind (arith, within_self)

pub first_from-wants-requires : goal.first_from-wants-requires
first_from-wants-requires t c =
    omega (arith, (among c.args.self.now c.loop-spot.spot c.loop-spot.invariant.inside).1, c.requires.counted)

pub first_from-returns-then-wants : goal.first_from-returns-then-wants
first_from-returns-then-wants t c =
    let p = wanted c.args.search.now in
    let o = c.args.self.now in
    let s = c.loop-spot.spot in
    let i = c.loop-spot.invariant in
    (found_in p s.number o s i.inside (from_less p c.loop-spot.from s.number o i.begun i.found) (found_self p s.number s.offset s.node.now (c.if-wants.ensures (saturated s.offset))), i.inside)

pub first_from-look-requires : goal.first_from-look-requires
first_from-look-requires t c =
    let p = wanted c.args.search.now in
    let o = c.args.self.now in
    let s = c.loop-spot.spot in
    let i = c.loop-spot.invariant in
    let on : FoundFrom p c.max-from.result o = from_past_own p c.loop-spot.from c.max-from.result o s i.inside i.begun i.found c.if-wants.ensures (omega (arith, c.max-from.ensures)) in
    (omega (arith, c.decreases, i.size), (omega (arith, (among o s i.inside).1, c.requires.counted), (omega (arith, c.max-from.ensures), from_below p c.max-from.result o s i.inside on)))

pub first_from-returns-in-Found : goal.first_from-returns-in-Found
first_from-returns-in-Found t c =
    let p = wanted c.args.search.now in
    let o = c.args.self.now in
    let s = c.loop-spot.spot in
    let i = c.loop-spot.invariant in
    (found_in p c.in-Found.found.number o s i.inside (from_less p c.loop-spot.from s.number o i.begun i.found) c.in-Found.ensures.0, within_in _ _ _ _ _ _ _ _ _ i.inside c.in-Found.ensures.1)

pub first_from-end-requires : goal.first_from-end-requires
first_from-end-requires t c =
    omega (arith, (among c.args.self.now c.loop-spot.spot c.loop-spot.invariant.inside).1, c.requires.counted)

pub first_from-first_behind-requires : goal.first_from-first_behind-requires
first_from-first_behind-requires t c =
    let p = wanted c.args.search.now in
    let o = c.args.self.now in
    let s = c.loop-spot.spot in
    let i = c.loop-spot.invariant in
    (omega (arith, c.decreases), (c.requires.counted, (omega (arith, (among o s i.inside).0, c.end.ensures), from_on p c.end.result o s i.inside (from_less p c.loop-spot.from s.number o i.begun i.found) (from_none p c.end.result s c.in-Nothing.ensures) (omega (arith, c.end.ensures)))))

pub first_from-loop-spot-preserved : goal.first_from-loop-spot-preserved
first_from-loop-spot-preserved t c =
    let p = wanted c.args.search.now in
    let o = c.args.self.now in
    let s = c.loop-spot.spot in
    let k = c.in-Heavy.kid in
    let i = c.loop-spot.invariant in
    let h = c.in-Heavy.ensures in
    let on : FoundFrom p c.max-from.result o = from_past_own p c.loop-spot.from c.max-from.result o s i.inside i.begun i.found c.if-wants.ensures (omega (arith, c.max-from.ensures)) in
    let kid : FoundFrom p k.number o = from_on p k.number o s i.inside (from_less p c.loop-spot.from s.number o i.begun i.found) h.0 (omega (arith, (among s k h.1).1)) in
    grind (arith, common_steps, within_in, from_either)

pub first_behind-first_behind-requires : goal.first_behind-first_behind-requires
first_behind-first_behind-requires t c =
    let p = wanted c.args.search.now in
    let o = c.args.self.now in
    let b = c.towards-below.result in
    let e = c.towards-below.ensures in
    let a = among o b e.spot in
    (omega (arith, c.decreases, a.0, a.1, c.if-below-self.false), (omega (arith, a.1, c.requires.counted), (e.from, from_below p c.loop-left.from o b e.spot c.loop-left.invariant.found)))

pub first_behind-returns-in-Some : goal.first_behind-returns-in-Some
first_behind-returns-in-Some t c =
    let p = wanted c.args.search.now in
    let o = c.args.self.now in
    let b = c.towards-below.result in
    let e = c.towards-below.ensures in
    (found_in p c.in-Some.found.number o b e.spot (from_less p c.loop-left.from b.number o (omega (arith, e.from)) c.loop-left.invariant.found) c.in-Some.ensures.0, within_in _ _ _ _ _ _ _ _ _ e.spot c.in-Some.ensures.1)

pub first_behind-loop-left-preserved : goal.first_behind-loop-left-preserved
first_behind-loop-left-preserved t c =
    let p = wanted c.args.search.now in
    let o = c.args.self.now in
    let b = c.towards-below.result in
    let e = c.towards-below.ensures in
    record {
      begun = omega (arith, (among o b e.spot).0, c.end-from.ensures);
      found = from_on p c.end-from.result o b e.spot (from_less p c.loop-left.from b.number o (omega (arith, e.from)) c.loop-left.invariant.found) (from_none p c.end-from.result b (rw c.in_default.is at c.first_behind.ensures)) (omega (arith, c.end-from.ensures));
    }

pub first_behind-returns-then-end-from : goal.first_behind-returns-then-end-from
first_behind-returns-then-end-from t c = grind (arith, from_past)

pub first_behind-end-from-requires : goal.first_behind-end-from-requires
first_behind-end-from-requires t c =
    omega (arith, (among c.args.self.now c.towards-below.result c.towards-below.ensures.spot).1, c.requires.counted)

pub first_from-overflow_add-spot : goal.first_from-overflow_add-spot
first_from-overflow_add-spot t c =
    omega (arith, (among c.args.self.now c.loop-spot.spot c.loop-spot.invariant.inside).1, c.requires.counted)

pub look-behind-at-requires-clause-counted : goal.look-behind-at-requires-clause-counted
look-behind-at-requires-clause-counted t c =
    let w = over c.args.self.now.node.now c.args.self.now.number _ _ _ _ _ _ c.children-row.ensures c.index-row-at.is c.loop-at-test.true c.loop-at.invariant.passed in
    omega (arith, w.fits, c.requires.counted)

pub look-loop-at-preserved-then-at-least : goal.look-loop-at-preserved-then-at-least
look-loop-at-preserved-then-at-least t c =
    let w = over c.args.self.now.node.now c.args.self.now.number _ _ _ _ _ _ c.children-row.ensures c.index-row-at.is c.loop-at-test.true c.loop-at.invariant.passed in
    grind (arith, common_steps, from_on, from_less, from_below)

pub look-passes_over-requires : goal.look-passes_over-requires
look-passes_over-requires t c =
    let w = over c.args.self.now.node.now c.args.self.now.number _ _ _ _ _ _ c.children-row.ensures c.index-row-at.is c.loop-at-test.true c.loop-at.invariant.passed in
    omega (arith, w.fits, c.requires.counted, c.tree.ensures.number)

pub look-loop-at-preserved-then-passes_over : goal.look-loop-at-preserved-then-passes_over
look-loop-at-preserved-then-passes_over t c =
    let p = wanted c.args.search.now in
    let o = c.args.self.now in
    let w = over o.node.now o.number _ _ _ _ _ _ c.children-row.ensures c.index-row-at.is c.loop-at-test.true c.loop-at.invariant.passed in
    let e = c.tree.ensures in
    let n = c.behind-at.ensures in
    let k = c.tree.result.spot in
    let inside : IsIn o k = rw (e.node, e.number, e.offset) w.inside in
    let nothing : first_of p k ≡ None = rw e.node (c.passes_over.ensures c.if-passes_over.true k.offset) in
    record {
      passed = rw (n.index, n.number, n.offset) w.next;
      found = from_on p c.behind-at.result.number o k inside (from_less p c.loop-at.at.number k.number o (omega (arith, e.number)) c.loop-at.invariant.found) (from_none p c.behind-at.result.number k nothing) (omega (arith, n.number, e.number, ap nodes e.node));
    }

pub look-returns-then-descendants-heavy : goal.look-returns-then-descendants-heavy
look-returns-then-descendants-heavy t c =
    let w = over c.args.self.now.node.now c.args.self.now.number _ _ _ _ _ _ c.children-row.ensures c.index-row-at.is c.loop-at-test.true c.loop-at.invariant.passed in
    grind (arith, common_steps, from_less)

pub look-first_from-requires : goal.look-first_from-requires
look-first_from-requires t c =
    let p = wanted c.args.search.now in
    let o = c.args.self.now in
    let w = over o.node.now o.number _ _ _ _ _ _ c.children-row.ensures c.index-row-at.is c.loop-at-test.true c.loop-at.invariant.passed in
    let e = c.tree.ensures in
    let k = c.tree.result.spot in
    let inside : IsIn o k = rw (e.node, e.number, e.offset) w.inside in
    (omega (arith, c.decreases, w.fits, c.loop-at.invariant.passed.number, ap nodes e.node), (omega (arith, w.fits, c.requires.counted, e.number, ap nodes e.node), (omega (arith, c.max.ensures), from_either p c.args.least k.number c.max.result k (omega (arith, c.max.ensures)) (from_below p c.args.least o k inside c.requires.least) (from_own p k))))

pub look-returns-in-Some : goal.look-returns-in-Some
look-returns-in-Some t c =
    let p = wanted c.args.search.now in
    let o = c.args.self.now in
    let w = over o.node.now o.number _ _ _ _ _ _ c.children-row.ensures c.index-row-at.is c.loop-at-test.true c.loop-at.invariant.passed in
    let e = c.tree.ensures in
    let k = c.tree.result.spot in
    let inside : IsIn o k = rw (e.node, e.number, e.offset) w.inside in
    (found_in p c.in-Some.found.number o k inside (from_less p c.loop-at.at.number k.number o (omega (arith, e.number)) c.loop-at.invariant.found) c.in-Some.ensures.0, within_in _ _ _ _ _ _ _ _ _ inside c.in-Some.ensures.1)

pub look-loop-at-preserved : goal.look-loop-at-preserved
look-loop-at-preserved t c =
    let p = wanted c.args.search.now in
    let o = c.args.self.now in
    let w = over o.node.now o.number _ _ _ _ _ _ c.children-row.ensures c.index-row-at.is c.loop-at-test.true c.loop-at.invariant.passed in
    let e = c.tree.ensures in
    let n = c.behind-at.ensures in
    let k = c.tree.result.spot in
    let inside : IsIn o k = rw (e.node, e.number, e.offset) w.inside in
    record {
      passed = rw (n.index, n.number, n.offset) w.next;
      found = from_on p c.behind-at.result.number o k inside (from_less p c.loop-at.at.number k.number o (omega (arith, e.number)) c.loop-at.invariant.found) (from_none p c.behind-at.result.number k (rw c.in_default.is at c.first_from.ensures)) (omega (arith, n.number, e.number, ap nodes e.node));
    }

pub look-returns : goal.look-returns
look-returns t c = grind (arith, from_past, all_counted)
