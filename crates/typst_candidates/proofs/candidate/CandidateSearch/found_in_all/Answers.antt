use Rattle.typst_candidates.proofs.Cited.{◌++◌, [], List, length, take, ap, sym, ◌∙◌, arith, length-map, length-take, Candidate, spelled, found_in, found_in_all, map}
use Rattle.typst_candidates.proofs.Stops.{added_first, found-push}
use Rattle.typst_candidates.proofs.candidate.CandidateSearch.found_in_all.Goals as goal

pub loop-innermost-preserved : goal.loop-innermost-preserved
loop-innermost-preserved c =
    let es = c.args.self.now.records.now.units.entries in
    let i = c.loop-innermost.invariant in
    let now = c.add.new.found in
    record {
      room = omega (arith, ap (λ (xs : List Candidate). length xs) (c.in_ok-add.ensures.found []), length-map now.items.items (spelled []), length-take now.most (map (spelled []) c.loop-innermost.found.items.items ++ found_in es [] c.in-Some.innermost));
      found = λ path.
          (let before = map (spelled path) c.loop-innermost.found.items.items in
          let left = c.pop.new.self.items in
          let all = found_in_all es path c.args.around.items in
          let popped = ap (found_in_all es path) c.in-Some.ensures.items ∙ found-push es path left c.in-Some.innermost in
          added_first c.loop-innermost.found.most now.most before (found_in es path c.in-Some.innermost) (found_in_all es path left) (map (spelled path) now.items.items) all
          (ap (λ (xs : List Candidate). take c.loop-innermost.found.most (before ++ xs)) (sym popped) ∙ i.found path) (c.in_ok-add.ensures.found path) c.in_ok-add.ensures.most);
      most = omega (arith, i.most, c.in_ok-add.ensures.most);
      whole = λ h. c.in_ok-add.ensures.whole h ∙ i.whole h;
    }
