use Rattle.typst_tree.proofs.Cited.{common_steps, ◌≡◌, ◌+◌, ap, sym, ◌∙◌, arith, drop, subst, take, forest, trees, count, nodes, AreInOrder, numbers_of, Holds, in_order_of}
use Rattle.typst_tree.proofs.SpansAside.{trees_forest}
use Rattle.typst_tree.proofs.Branches.{beside_of, stands_in}
use Rattle.typst_tree.proofs.NodesOfStretch.{node_here}
use Rattle.typst_tree.proofs.Rows.{row_stands}
use Rattle.typst_tree.proofs.Siblings.{drop_numbers}
use Rattle.typst_tree.proofs.linked.LinkedNode.row.Goals as goal

pub from_index-requires : goal.from_index-requires
from_index-requires c = grind (arith, common_steps, beside_of c.args.self c.args.above c.children.result.now c.requires c.children.ensures)

pub invariant_of-result : goal.invariant_of-result
invariant_of-result c =
    let b = beside_of c.args.self c.args.above c.children.result.now c.requires c.children.ensures in
    let same : c.children.result.now ≡ trees c.args.above.parent.node.now.kids = sym (trees_forest c.children.result.now) ∙ ap trees c.children.ensures in
    let above = c.args.above.parent in
    let p = c.as_parent.ensures in
    record {
      counted = c.args.self.counted;
      stands = rw (b.number, sym b.start, c.from_index.ensures) (row_stands c.args.self.root.now c.args.above.parent.node.now c.args.above.parent.number c.args.above.parent.offset c.args.above.index c.children.result.now c.children.ensures (stands_in above c.requires.root));
      node = rw (p.node, p.number, p.offset) (stands_in above c.requires.root);
      row = c.from_index.ensures ∙ (ap (drop c.args.above.index) same ∙ ap (λ t. drop c.args.above.index (trees t.kids)) (sym p.node));
      before = rw (p.node, p.number) (b.number ∙ ap (λ xs. c.args.above.parent.number + 1 + count (forest (take c.args.above.index xs))) same);
      ordered = λ e. subst (λ r. AreInOrder (numbers_of r)) c.requires.root (above.ordered (ap in_order_of (sym p.known) ∙ e));
      holds = rw (p.node, p.number, p.offset, p.known) (subst (λ r. Holds r above.number above.offset (nodes above.node.now) above.known) c.requires.root above.holds);
    }

pub returns : goal.returns
returns c = grind (arith, beside_of, node_here, drop_numbers)
