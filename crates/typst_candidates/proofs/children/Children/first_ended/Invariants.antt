use Rattle.typst_candidates.proofs.Cited.{◌-◌, length, IsEdge}
use Rattle.typst_candidates.proofs.Edges.{Ended}
use Rattle.typst_candidates.proofs.children.Children.first_ended.Given as goal

abbrev pub decreases-loop-end : goal.decreases-loop-end
decreases-loop-end l = length l.self.kids.now - l.end.index

abbrev pub invariant-loop-end : goal.invariant-loop-end
invariant-loop-end l = record {
  edge : IsEdge l.self.at l.self.kids.now l.end;
  ended : Ended l.byte l.self.at l.self.kids.now l.end.index;
}
