use Rattle.typst_candidates.proofs.Cited.{◌≡◌, ◌++◌, ◌∷◌, [], ℕ, suc, List, length, take, Note, nodes, IsNear, below, found_in_all, inside, kids, Written}
use Rattle.typst_candidates.proofs.candidate.CandidateSearch.below.Given as goal

-- those below the node reached so far come before those of what was passed
abbrev pub invariant-loop-child : goal.invariant-loop-child
invariant-loop-child l = record {
  near : IsNear (inside l.stop) (kids l.stop) l.self.start l.self.end l.stop.near;
  depth : l.stop.depth ≡ length l.path.items;
  path : take (length l.fn.path.items) l.path.items ≡ l.fn.path.items;
  way : take (suc (length l.fn.path.items)) (l.path.items ++ l.stop.near.first.index ∷ []) ≡ l.fn.path.items ++ l.top.near.first.index ∷ [];
  found : (ns : List Note) → Written l.self.records.now.units.entries ns → (final : List ℕ) → take (length l.path.items) final ≡ l.path.items
      → below ns l.self.start l.self.end l.path.items l.stop.at l.stop.node.now ++ found_in_all l.self.records.now.units.entries final l.around.items ≡ below ns l.self.start l.self.end l.fn.path.items l.top.at l.top.node.now;
}

abbrev pub decreases-loop-child : goal.decreases-loop-child
decreases-loop-child l = nodes l.stop.node.now
