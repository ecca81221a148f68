use Rattle.typst_highlight.proofs.Cited.{◌≡◌, forest, none, left, root_context, steps, walked}
use Rattle.typst_highlight.proofs.sink.give_tree.Given as goal

abbrev pub invariant-nodes : goal.invariant-nodes
invariant-nodes g l = left g.S.Sink.outlet l.progress (forest l.rest) l.sink ≡ walked g.S.Sink.outlet root_context l.root none l.fn.sink

abbrev pub decreases-nodes : goal.decreases-nodes
decreases-nodes g l = steps l.progress (forest l.rest)
