use Rattle.typst_names.proofs.Cited.{◌≡◌, ◌<◌, drop, forest, count, nodes, kid_at, inner, around}
use Rattle.typst_names.proofs.places.Placed.child_at.Given as goal

abbrev pub invariant-loop-node : goal.invariant-loop-node
invariant-loop-node l = record {
  kid : kid_at l.byte l.start (forest (drop l.node-index l.node-items)) ≡ kid_at l.byte (inner l.self.start l.self.node.now.head) l.self.node.now.kids;
  around : around l.byte l.start (forest (drop l.node-index l.node-items)) ≡ around l.byte (inner l.self.start l.self.node.now.head) l.self.node.now.kids;
  fewer : count (forest (drop l.node-index l.node-items)) < nodes l.self.node.now;
}
