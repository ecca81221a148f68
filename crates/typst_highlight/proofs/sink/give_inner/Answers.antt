use Rattle.typst_highlight.proofs.Cited.{refl, arith, forest, end, joined, Waiting}
use Rattle.typst_highlight.proofs.Returning.{fewer_inner, left_inner}
use Rattle.typst_highlight.proofs.sink.give_inner.Goals as goal

pub returns-clause-given : goal.returns-clause-given
returns-clause-given g c =
    let p = c.args.progress.now in
    let w : Waiting = record { nodes = c.args.later; start = end (joined p) c.args.node.now; level = p.level; kept = c.in_ok-kept.kept; parent = 0 } in
    left_inner g.S.Sink.outlet p c.enter.new.self w c.args.node.now (forest c.args.later.now) _ _ _ _ _ _ c.requires c.in_ok-span.ensures c.in_ok-kept.ensures.begun c.in_ok-kept.ensures.kept c.leaf_text-text.ensures c.in_ok-own.ensures c.in_ok-enter.ensures.inside c.in_ok-enter.ensures.waiting refl refl refl refl

pub returns-clause-fewer : goal.returns-clause-fewer
returns-clause-fewer g c = grind (arith, fewer_inner)
