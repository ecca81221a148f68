-- A linked node is one of its tree's nodes.
use Rattle.typst_tree.proofs.Cited.{◌<◌, arith, nodes, linked, LinkedNode}
use Rattle.typst_tree.proofs.WalksInPreorder.{length_places}

pub inside : (a : LinkedNode) → (linked a).number < nodes (linked a).root
inside a = omega (arith, a.stands.within, length_places a.node.now, length_places a.root.now)
