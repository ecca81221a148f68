use Rattle.std.proofs.Common.{arith}
use Rattle.typst_candidates.proofs.Blocks.{back-after}
use Rattle.typst_candidates.proofs.Words.{wides-take}
use Rattle.typst_candidates.proofs.entries.WordCursor.farthest_back.Goals as goal

pub farthest_back-requires : goal.farthest_back-requires
farthest_back-requires c = omega (arith, wides-take c.self.inside.words.now c.self.inside.number)

pub returns : goal.returns
returns c = grind (arith, back-after)
