use Rattle.typst_parser.proofs.Cited.{◌≡◌, ◌+◌, ◌<◌, suc, length, take, ap, ◌∙◌, arith, kids_of, forest, joined}
use Rattle.typst_parser.proofs.Paths.{Further, further, kid-is, taken-length}
use Rattle.typst_parser.proofs.attempt.byte_before.Goals as goal
use Rattle.typst_parser.proofs.attempt.byte_before.Goals.{After-len-at}

pub slice_bounds-kid-items-end : goal.slice_bounds-kid-items-end
slice_bounds-kid-items-end c = taken-length c.args.node.now c.children.result.now c.args.index c.children.ensures c.requires.within

step : (c : After-len-at) → Further c.args.node.now c.loop-kid.kid-index (c.loop-kid.at + c.len-at.result)
step c =
    let long = taken-length c.args.node.now c.children.result.now c.args.index c.children.ensures c.requires.within in
    let test = c.loop-kid-test.true in
    let within = c.requires.within in
    let less : c.loop-kid.kid-index < c.args.index = omega (arith, test, long) in
    further c.args.node.now c.loop-kid.kid-index c.loop-kid.at c.len-at.result c.kid-item.result c.requires.fits (omega (arith, less, within))
    (kid-is c.args.node.now c.children.result.now c.args.index c.loop-kid.kid-index c.kid-item.result c.children.ensures less c.kid-item.is) c.loop-kid.invariant c.len-at.ensures

pub overflow_add-at : goal.overflow_add-at
overflow_add-at c = let w = (step c).within in let f = c.requires.fits in omega (arith, w, f)

pub loop-kid-preserved : goal.loop-kid-preserved
loop-kid-preserved c =
    let i = c.loop-kid.kid-index in
    let next : suc i ≡ i + 1 = omega arith in
    (step c).is ∙ ap (λ n. length c.args.node.now.head.text + length (joined (forest (take n (kids_of c.args.node.now))))) next

pub returns : goal.returns
returns c = grind (arith, taken-length)
