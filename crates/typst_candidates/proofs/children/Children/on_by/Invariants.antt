use Rattle.typst_candidates.proofs.Cited.{◌≡◌, ◌+◌, IsEdge}
use Rattle.typst_candidates.proofs.children.Children.on_by.Given as goal

abbrev pub invariant-loop : goal.invariant-loop
invariant-loop l = record {
  edge : IsEdge l.self.at l.self.kids.now l.edge;
  index : l.edge.index ≡ l.fn.from.index + l.counter;
}
