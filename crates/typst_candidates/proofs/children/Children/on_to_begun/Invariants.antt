use Rattle.typst_candidates.proofs.Cited.{◌≡◌, ◌-◌, ◌<◌, length, IsEdge}
use Rattle.typst_candidates.proofs.Edges.{Begun}
use Rattle.typst_candidates.proofs.children.Children.on_to_begun.Given as goal

abbrev pub decreases-loop-next : goal.decreases-loop-next
decreases-loop-next l = length l.self.kids.now - l.next.index

abbrev pub invariant-loop-next : goal.invariant-loop-next
invariant-loop-next l = record {
  edge : IsEdge l.self.at l.self.kids.now l.next;
  last : IsEdge l.self.at l.self.kids.now l.last;
  index : l.last.index ≡ l.next.index - 1;
  before : l.last.byte < l.byte;
  begun : Begun l.byte l.self.at l.self.kids.now l.next.index;
}
