use Rattle.typst_candidates.proofs.Cited.{◌≡◌, ℕ, List, length, ap, sym, subst, ◌∙◌, arith, length-map, IsRun, bytes_of, pieces_at, spelled, within, map}
use Rattle.typst_candidates.proofs.Found.{fits_of}
use Rattle.typst_candidates.proofs.Stops.{run-added}
use Rattle.typst_candidates.proofs.candidate.CandidateSearch.add_run.Goals as goal

pub add_pieces-requires-clause-fits : goal.add_pieces-requires-clause-fits
add_pieces-requires-clause-fits c = fits_of c.args.stop.at c.of-children.result.at c.args.stop.node.now c.of-children.result.kids.now c.of-children.ensures.kids c.of-children.ensures.at c.args.stop.fits

pub returns-clause-found : goal.returns-clause-found
returns-clause-found c = λ path.
    let es = c.args.self.now.records.now.units.entries in
    let run = subst (IsRun c.args.self.now.window (pieces_at es c.args.run)) c.in-Some.is c.in_ok-cuts.ensures in
    let bs : List ℕ = run.0 in
    let here : bytes_of c.in-Some.cuts ≡ within c.in-Some.cuts.window bs = run.3 ∙ ap (λ v. within v bs) (sym run.2) in
    let before : c.len-before.result ≡ length (map (spelled path) c.args.found.now.items.items) = omega (arith, c.len-before.ensures, c.args.found.now.items.ok.0, length-map c.args.found.now.items.items (spelled path)) in
    run-added path c.args.stop c.of-children.result.at c.of-children.result.kids.now bs (pieces_at es c.args.run) (map (spelled path) c.args.found.now.items.items) _ c.len-before.result c.in_ok-added.added c.of-children.ensures.at c.of-children.ensures.kids run.1 before (c.in_ok-added.ensures.added bs here path)
