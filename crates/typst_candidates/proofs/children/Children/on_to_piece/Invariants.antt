use Rattle.typst_candidates.proofs.Cited.{◌≡◌, ◌-◌, length, not, ◌||◌, on_past, holds_at, laid, leads, clings, IsEdge, bytes_of}
use Rattle.typst_candidates.proofs.children.Children.on_to_piece.Given as goal

abbrev pub decreases-loop-edge : goal.decreases-loop-edge
decreases-loop-edge l = length l.self.kids.now - l.edge.index

abbrev pub invariant-loop-edge : goal.invariant-loop-edge
invariant-loop-edge l = record {
  edge : IsEdge l.self.at l.self.kids.now l.edge;
  index : on_past (holds_at (λ d. clings d.node || not (leads (bytes_of l.cuts) d)) (laid l.self.at l.self.kids.now)) (length l.self.kids.now - l.fn.from.index) l.fn.from.index
      ≡ on_past (holds_at (λ d. clings d.node || not (leads (bytes_of l.cuts) d)) (laid l.self.at l.self.kids.now)) (length l.self.kids.now - l.edge.index) l.edge.index;
}
