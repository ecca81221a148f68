use Rattle.typst_features.proofs.Cited.{◌≡◌, none, more, nodes, holding, mentions, row}
use Rattle.typst_features.proofs.naming.mention_holding.Given as goal

abbrev pub decreases-loop-kid : goal.decreases-loop-kid
decreases-loop-kid l = nodes l.placed.node.now

abbrev pub invariant-loop-kid : goal.invariant-loop-kid
invariant-loop-kid l = holding l.byte (row l.in_markup l.placed.start (more l.placed.node.now.head l.placed.node.now.kids none)) ≡ holding l.byte (mentions l.root)
