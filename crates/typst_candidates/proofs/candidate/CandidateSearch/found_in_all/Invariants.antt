use Rattle.typst_candidates.proofs.Cited.{◌≡◌, ◌≤◌, ◌++◌, ℕ, List, length, take, IsWhole, spelled, found_in_all, map}
use Rattle.typst_candidates.proofs.candidate.CandidateSearch.found_in_all.Given as goal

-- what was found, with what is found in the runs and blocks that are left, begins as all of it does
abbrev pub invariant-loop-innermost : goal.invariant-loop-innermost
invariant-loop-innermost l =
    let es = l.self.records.now.units.entries in
    record {
      room : length l.found.items.items ≤ l.found.most;
      found : (path : List ℕ) → take l.found.most (map (spelled path) l.found.items.items ++ found_in_all es path l.around.items) ≡ take l.found.most (found_in_all es path l.initial.around.items);
      most : l.found.most ≤ l.self.most;
      whole : IsWhole l.self.window → l.found.most ≡ l.self.most;
    }

abbrev pub decreases-loop-innermost : goal.decreases-loop-innermost
decreases-loop-innermost l = length l.around.items
