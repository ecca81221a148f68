use Rattle.typst_candidates.proofs.Cited.{◌≡◌, ◌++◌, List, ℕ, ◌∷◌, [], length, take, ap, ◌∙◌, arith, length-map, length-take, forest, Candidate, candidates_at, pieces_at, spelled, found_in_all, run_of, map}
use Rattle.typst_candidates.specs.declared.enclosing.RunAt.TheVariants as run
use Rattle.typst_candidates.proofs.Nested.{top-run}
use Rattle.typst_candidates.proofs.Stops.{added_last, stop-is}
use Rattle.typst_candidates.proofs.candidate.CandidateSearch.candidates.Goals as goal

pub add-requires-clause-room : goal.add-requires-clause-room
add-requires-clause-room c =
    let es = c.args.self.now.records.now.units.entries in
    omega (arith, ap (λ (xs : List Candidate). length xs) (c.in_ok-found.ensures.found []), length-map c.in_ok-found.found.items.items (spelled []), length-take c.in_ok-found.found.most (found_in_all es [] c.in_ok-around.around.items))

pub returns-clause-found : goal.returns-clause-found
returns-clause-found c = λ ns w.
    let es = c.args.self.now.records.now.units.entries in
    let rs = c.args.self.now.start in
    let re = c.args.self.now.end in
    let path = c.below.new.path.items in
    let top = c.args.top in
    let own = run_of path top (pieces_at es run.Text) in
    let way : take top.depth path ≡ c.args.path.now.items = ap (λ (n : ℕ). take n path) c.requires.depth ∙ c.in_ok-around.ensures.path in
    added_last c.add.new.found.most c.in_ok-found.found.most (map (spelled path) c.in_ok-found.found.items.items) (found_in_all es path c.in_ok-around.around.items) own (map (spelled path) c.add.new.found.items.items)
    (candidates_at ns rs re c.args.path.now.items _ 0 top.at (forest (top.node.now ∷ [])))
    (c.in_ok-add.ensures.found path) (c.in_ok-found.ensures.found path) c.in_ok-add.ensures.most
    (ap (λ (xs : List Candidate). xs ++ own) (c.in_ok-around.ensures.found ns w) ∙ stop-is ns rs re c.args.path.now.items path top (pieces_at es run.Text) c.requires.near way
    ∙ (λ k. candidates_at ns rs re c.args.path.now.items (top-run es ns w k) 0 top.at (forest (top.node.now ∷ []))))
