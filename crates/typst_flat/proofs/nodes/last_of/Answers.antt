use Rattle.typst_flat.proofs.Cited.{◌++◌, ◌∷◌, forest, preorder}
use Rattle.typst_flat.proofs.Endings.{ends_below, fewer_below}
use Rattle.typst_flat.proofs.nodes.last_of.Goals as goal

pub levels-preserved : goal.levels-preserved
levels-preserved c =
    let w = c.levels.invariant in
    let last = c.levels.last.now in
    let kid = c.in-Some.kid.now in
    (w.0 ++ last ∷ preorder (forest _), ends_below c.args.node.now last kid w.0 c.children.result.now _ w.1 c.children.ensures c.in-Some.ensures.cases.0)

pub levels-smaller : goal.levels-smaller
levels-smaller c = fewer_below c.levels.last.now c.in-Some.kid.now c.children.result.now _ c.children.ensures c.in-Some.ensures.cases.0
