use Rattle.typst_candidates.proofs.Cited.{◌+◌, ◌<◌, ◌^◌, length, arith, text_of}
use Rattle.typst_candidates.proofs.Found.{fits_of}
use Rattle.typst_candidates.proofs.Stops.{near-moved}
use Rattle.typst_candidates.proofs.Windows.{near_order}
use Rattle.typst_candidates.proofs.candidate.CandidateSearch.top.Goals as goal

pub near_from-near-requires-clause-fits : goal.near_from-near-requires-clause-fits
near_from-near-requires-clause-fits c =
    let root = c.args.root.now in
    let fits : 0 + length (text_of root) < 2 ^ 64 = omega (arith, c.requires.fits) in
    fits_of 0 c.of-children.result.at root c.of-children.result.kids.now c.of-children.ensures.kids c.of-children.ensures.at fits

pub invariant_of-result : goal.invariant_of-result
invariant_of-result c = grind (arith, near-moved, near_order)
