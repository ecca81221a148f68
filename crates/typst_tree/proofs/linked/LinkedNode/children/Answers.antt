use Rattle.typst_tree.proofs.Cited.{◌≡◌, ◌+◌, ap, sym, ◌∙◌, arith, length, places, saturated, trees, in_order_of}
use Rattle.typst_tree.proofs.SpansAside.{trees_forest}
use Rattle.typst_tree.proofs.Branches.{room}
use Rattle.typst_tree.proofs.NodesOfStretch.{node_here, stands_row}
use Rattle.typst_tree.proofs.WalksInPreorder.{within_children}
use Rattle.typst_tree.proofs.linked.LinkedNode.children.Goals as goal

pub overflow_add-result : goal.overflow_add-result
overflow_add-result c = omega (arith, room c.args.self)

pub invariant_of-result : goal.invariant_of-result
invariant_of-result c =
    let offset : c.saturating_add.result ≡ saturated (c.args.self.offset + length c.args.self.node.now.head.text) = omega (arith, c.saturating_add.ensures, ap length c.leaf_text.ensures) in
    record {
      counted = c.args.self.counted;
      stands = stands_row (places c.args.self.root.now) c.args.self.number c.args.self.offset _ _ (places c.args.self.node.now) _ c.args.self.stands
          (within_children c.args.self.number c.args.self.offset _ c.args.self.node.now c.children.result.now c.children.ensures offset);
      node = rw (c.as_parent.ensures.node, c.as_parent.ensures.number, c.as_parent.ensures.offset) c.args.self.stands;
      row = sym (trees_forest c.children.result.now) ∙ (ap trees c.children.ensures ∙ ap (λ t. trees t.kids) (sym c.as_parent.ensures.node));
      before = omega (arith, c.as_parent.ensures.number);
      ordered = λ e. c.args.self.ordered (ap in_order_of (sym c.as_parent.ensures.known) ∙ e);
      holds = rw (c.as_parent.ensures.node, c.as_parent.ensures.number, c.as_parent.ensures.offset, c.as_parent.ensures.known) c.args.self.holds;
    }

pub returns : goal.returns
returns c = grind (arith, node_here)
