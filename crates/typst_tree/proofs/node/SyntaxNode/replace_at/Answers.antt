use Rattle.typst_tree.proofs.KeepsOrder.{keeps_order}
use Rattle.typst_tree.proofs.node.SyntaxNode.replace_at.Goals as goal

pub returns-clause-ordered : goal.returns-clause-ordered
returns-clause-ordered c = λ o.
    keeps_order c.args.path.now c.args.range.start c.args.range.end c.args.nodes.items c.args.self.now c.replace_below.new.self c.leaves_are_bare.ensures c.requires.reaches c.in_ok-replace_below.ensures.ok o
