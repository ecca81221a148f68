use Rattle.typst_tree.proofs.Cited.{◌-◌, arith, sym, ◌∙◌, nodes, places}
use Rattle.typst_tree.proofs.Forks.{holds_behind}
use Rattle.typst_tree.proofs.FoundBelow.{inside}
use Rattle.typst_tree.proofs.NodesOfStretch.{stands_row}
use Rattle.typst_tree.proofs.linked.LinkedNode.below.Goals as goal

pub invariant_of-result : goal.invariant_of-result
invariant_of-result c =
    let w = inside c.args.self.number c.args.self.offset c.args.self.node.now c.args.spot.number c.args.spot.offset c.args.spot.node.now c.requires in
    record {
      counted = c.args.self.counted;
      stands = stands_row (places c.args.self.root.now) c.args.self.number c.args.self.offset _ _ (places c.args.self.node.now) _ c.args.self.stands c.requires;
      ordered = λ e. c.args.self.ordered (sym c.behind.ensures.in_order ∙ e);
      holds = holds_behind c.args.self.root.now c.args.self.number c.args.self.offset (nodes c.args.self.node.now) c.args.spot.number c.args.spot.offset (nodes c.args.spot.node.now) (c.args.spot.offset - c.args.self.offset) c.args.self.known c.behind.result c.args.self.holds w.from w.to (omega arith) (omega (arith, c.requires.offset)) c.behind.ensures.opens c.behind.ensures.placed;
    }
