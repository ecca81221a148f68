use Rattle.typst_styles.proofs.Cited.{length, ap, arith, kids_are}
use Rattle.typst_styles.proofs.boundaries.on_to.Goals as goal

pub after-next-requires-clause-more : goal.after-next-requires-clause-more
after-next-requires-clause-more c = omega (arith, c.loop-here-test.true, ap length (kids_are c.args.root.now c.children-count.result.now c.children-count.ensures))
