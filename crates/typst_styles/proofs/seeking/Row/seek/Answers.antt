use Rattle.std.proofs.Common.{◌∙◌, arith}
use Rattle.typst_styles.proofs.SoughtSteps.{over, skipped, sought, sought_fewer}
use Rattle.typst_styles.proofs.seeking.Row.seek.Goals as goal

pub nodes-preserved : goal.nodes-preserved
nodes-preserved c = grind (arith, skipped)

pub returns-then-wanted-end-clause-seeks : goal.returns-then-wanted-end-clause-seeks
returns-then-wanted-end-clause-seeks c = grind (arith, sought)

pub returns-then-wanted-end-clause-fewer : goal.returns-then-wanted-end-clause-fewer
returns-then-wanted-end-clause-fewer c = sought_fewer c.args.self.now c.nodes.self c.take.new.self c.take.result c.nodes.invariant.steps c.take.ensures.fewer

pub returns-clause-seeks : goal.returns-clause-seeks
returns-clause-seeks c =
    c.nodes.invariant.left ∙ over c.args.wanted.now.within.now c.args.wanted.now.text.now c.args.wanted.now.root.now c.nodes.self c.nodes-test.false
