use Rattle.typst_candidates.proofs.Cited.{◌≡◌, not, back_past, holds_at, laid, leads, IsEdge, bytes_of}
use Rattle.typst_candidates.proofs.children.Children.back_to_piece.Given as goal

abbrev pub decreases-loop-edge : goal.decreases-loop-edge
decreases-loop-edge l = l.edge.index

abbrev pub invariant-loop-edge : goal.invariant-loop-edge
invariant-loop-edge l = record {
  edge : IsEdge l.self.at l.self.kids.now l.edge;
  index : back_past (holds_at (λ d. not (leads (bytes_of l.cuts) d)) (laid l.self.at l.self.kids.now)) l.fn.from.index ≡ back_past (holds_at (λ d. not (leads (bytes_of l.cuts) d)) (laid l.self.at l.self.kids.now)) l.edge.index;
}
