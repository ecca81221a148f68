use Rattle.typst_flat.proofs.Cited.{◌≡◌, ◌-◌, nodes}
use Rattle.typst_flat.specs.Walk.{Stays, ahead}
use Rattle.typst_flat.proofs.walk.Walk.next.Given as goal

abbrev pub invariant-nodes : goal.invariant-nodes
invariant-nodes l = record {
  root : l.self.root.now ≡ l.fn.self.root.now;
  stretch : l.self.stretch ≡ l.fn.self.stretch;
  ready : Stays l.self;
  left : ahead l.fn.self ≡ ahead l.self;
}

abbrev pub decreases-nodes : goal.decreases-nodes
decreases-nodes l = nodes l.self.root.now - l.self.number
