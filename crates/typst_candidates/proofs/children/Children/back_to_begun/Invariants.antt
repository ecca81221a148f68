use Rattle.typst_candidates.proofs.Cited.{◌<◌, ◌≤◌, length, IsEdge}
use Rattle.typst_candidates.proofs.children.Children.back_to_begun.Given as goal

abbrev pub decreases-loop-edge : goal.decreases-loop-edge
decreases-loop-edge l = l.edge.index

abbrev pub invariant-loop-edge : goal.invariant-loop-edge
invariant-loop-edge l = record {
  edge : IsEdge l.self.at l.self.kids.now l.edge;
  after : l.edge.index < length l.self.kids.now → l.byte ≤ l.edge.byte;
}
