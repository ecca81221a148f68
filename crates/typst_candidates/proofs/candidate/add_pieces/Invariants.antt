use Rattle.typst_candidates.proofs.Cited.{◌≡◌, ◌+◌, ◌++◌, ◌-◌, ℕ, List, length, min, suc, take, laid, child_ranges, of_child_ranges, bytes_of, spelled, within, map}
use Rattle.typst_candidates.proofs.candidate.add_pieces.Given as goal

abbrev pub invariant-loop-added : goal.invariant-loop-added
invariant-loop-added l = record {
  many : length l.found.items ≡ length l.fn.found.items + l.added;
  left : (bs : List ℕ) → bytes_of l.cuts ≡ within l.cuts.window bs → (path : List ℕ)
      → map (spelled path) l.found.items ++ of_child_ranges (take l.depth path) l.children.at l.children.kids.now (child_ranges bs (laid l.children.at l.children.kids.now) l.near.first.index l.near.end.index (min l.room (suc (length l.children.kids.now)) - l.added) l.more)
      ≡ map (spelled path) l.fn.found.items ++ of_child_ranges (take l.depth path) l.children.at l.children.kids.now (child_ranges bs (laid l.children.at l.children.kids.now) l.near.first.index l.near.end.index (min l.room (suc (length l.children.kids.now))) 1);
}
