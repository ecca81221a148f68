use Rattle.std.proofs.Common.{arith}
use Rattle.typst_candidates.proofs.Found.{fits_of}
use Rattle.typst_candidates.proofs.Stops.{near-moved}
use Rattle.typst_candidates.proofs.Windows.{near_order}
use Rattle.typst_candidates.proofs.candidate.CandidateSearch.stop.Goals as goal

pub near-near-requires-clause-fits : goal.near-near-requires-clause-fits
near-near-requires-clause-fits c = fits_of c.args.at c.of-children.result.at c.args.node.now c.of-children.result.kids.now c.of-children.ensures.kids c.of-children.ensures.at c.requires.fits

pub invariant_of-result : goal.invariant_of-result
invariant_of-result c = grind (arith, near-moved, near_order)
