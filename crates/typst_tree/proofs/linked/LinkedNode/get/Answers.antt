use Rattle.std.proofs.Common.{sym}
use Rattle.typst_tree.proofs.NodesOfStretch.{node_here}
use Rattle.typst_tree.proofs.linked.LinkedNode.get.Goals as goal

pub returns : goal.returns
returns c = sym (node_here c.args.self.root.now c.args.self.number c.args.self.offset c.args.self.node.now c.args.self.stands)
