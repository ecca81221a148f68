use Rattle.typst_tree.proofs.Cited.{◌≡◌, ℕ, ◌+◌, ◌≤◌, ◌^◌, get_or, arith, rules, set, Tree}
use Rattle.typst_tree.proofs.Numbering.{Next, next_fits, numbered_more}
use Rattle.typst_tree.proofs.numbers.number_all.Goals as goal

next : (c : goal.After-descendants) → Next c.args.stride (2 ^ 47) c.loop-kid.at c.descendants.result c.loop-kid.kid-index c.args.kids.now (get_or c.loop-kid.kids c.loop-kid.kid-index c.kid-item.result)
next c =
    next_fits c.args.stride c.args.start (2 ^ 47) c.loop-kid.at c.descendants.result c.loop-kid.kid-index c.args.kids.now c.loop-kid.kids c.kid-item.result
    c.requires.step c.loop-kid-test.true c.loop-kid.invariant.unvisited c.loop-kid.invariant.place c.requires.fits (omega arith) c.descendants.ensures

pub overflow_mul-share : goal.overflow_mul-share
overflow_mul-share c = let n = next c in rw n.counted (omega (arith, n.fits))

pub number-requires-clause-room : goal.number-requires-clause-room
number-requires-clause-room c = let n = next c in rw n.counted n.enough

pub number-requires-clause-fits : goal.number-requires-clause-fits
number-requires-clause-fits c = let n = next c in rw n.counted n.fits

pub overflow_add-at : goal.overflow_add-at
overflow_add-at c = let n = next c.before in rw n.counted (omega (arith, n.fits))

unvisited : (c : goal.After-number) (k : ℕ) (d : Tree) → c.loop-kid.kid-index + 1 ≤ k → get_or (set c.loop-kid.kids c.loop-kid.kid-index c.number.new.self) k d ≡ get_or c.args.kids.now k d
unvisited c = search rules

pub loop-kid-preserved : goal.loop-kid-preserved
loop-kid-preserved c =
    let n = next c.before in
    let m = numbered_more c.args.id.now c.args.stride c.args.start c.loop-kid.at c.args.kids.now c.loop-kid.kids c.loop-kid.kid-index c.kid-item.result (omega arith) c.loop-kid.invariant.done c.kid-item.is c.loop-kid.invariant.place in
    record {
      place = rw (n.counted, n.more_by) (omega (arith, c.loop-kid.invariant.place));
      unvisited = unvisited c;
      done = rw (c.number.ensures, n.counted, ← c.kid-item.is) m;
    }
