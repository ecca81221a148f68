use Rattle.typst_candidates.proofs.Cited.{common_steps, arith}
use Rattle.typst_candidates.proofs.Edges.{stepped}
use Rattle.typst_candidates.proofs.children.Children.after.Goals as goal

pub overflow_add-result-2 : goal.overflow_add-result-2
overflow_add-result-2 c =
    grind (arith, common_steps, stepped c.args.self.now.at c.args.self.now.kids.now c.args.edge.index c.index-self-edge.result c.len.result (omega (arith, c.requires.more)) c.requires.fits c.len.ensures)

pub returns-clause-edge : goal.returns-clause-edge
returns-clause-edge c = grind (arith, stepped)
