use Rattle.typst_tree.proofs.Cited.{common_steps, ◌≡◌, arith, places}
use Rattle.typst_tree.proofs.Parents.{nested}
use Rattle.typst_tree.proofs.linked.LinkedNode.branch.Goals as goal

pub returns : goal.returns
returns c =
    let kid = c.tree_of-kid in
    let number : c.child.result.number ≡ kid.result.spot.number = c.child.ensures.number in
    let node : c.child.result.node.now ≡ kid.result.spot.node.now = c.child.ensures.node in
    let to = nested (places c.args.self.root.now) _ _ _ _ kid.result.spot.node.now c.args.self.node.now kid.ensures.stands c.args.self.stands kid.ensures.from kid.ensures.to in
    grind (arith, common_steps)
