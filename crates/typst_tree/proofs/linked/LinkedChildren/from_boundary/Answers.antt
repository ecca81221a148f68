use Rattle.typst_tree.proofs.Cited.{◌≡◌, ◌≤◌, List, ap, arith, drop, length, subst, sym, take, ◌∙◌, Tree, count, forest, nodes, trees, in_order_of, AreInOrder, numbers_of, Holds}
use Rattle.typst_tree.specs.Steps.{At}
use Rattle.typst_tree.proofs.Boundaries.{kids_are, left_behind, nodes_below, stands_behind}
use Rattle.typst_tree.proofs.Branches.{root_node, stands_in}
use Rattle.typst_tree.proofs.linked.LinkedChildren.from_boundary.Goals as goal

pub from_index-requires : goal.from_index-requires
from_index-requires c = subst (λ (ts : List Tree). c.args.boundary.index ≤ length ts) (sym (kids_are c.args.root.now c.children.result.now c.children.ensures)) c.requires.boundary.within

pub overflow_add-result : goal.overflow_add-result
overflow_add-result c = omega (arith, nodes_below c.args.root.now c.args.boundary c.requires.counted c.requires.boundary)

pub invariant_of-result : goal.invariant_of-result
invariant_of-result c =
    let root = c.args.root.now in
    let b = c.args.boundary in
    let top = c.new-top.result in
    let p = c.as_parent.ensures in
    let same : top.root.now ≡ root = ap (λ (a : At). a.root) c.new-top.ensures in
    let first : top.number ≡ 0 = ap (λ (a : At). a.number) c.new-top.ensures in
    let node : c.as_parent.result.node.now ≡ root = p.node ∙ (root_node top first ∙ same) in
    record {
      counted = c.requires.counted;
      stands = stands_behind root b c.children.result.now c.from_index.result.now c.children.ensures c.from_index.ensures (omega arith) c.requires.boundary;
      node = rw (p.node, p.number, p.offset) (stands_in top same);
      row = c.from_index.ensures ∙ ap (λ (ts : List Tree). drop b.index ts) (kids_are root c.children.result.now c.children.ensures ∙ ap (λ (t : Tree). trees t.kids) (sym node));
      before = omega (arith, p.number, first, c.requires.boundary.nodes, ap (λ (t : Tree). count (forest (take b.index (trees t.kids)))) node);
      ordered = λ e. subst (λ (r : Tree). AreInOrder (numbers_of r)) same (top.ordered (ap in_order_of (sym p.known) ∙ e));
      holds = rw (p.node, p.number, p.offset, p.known) (subst (λ (r : Tree). Holds r top.number top.offset (nodes top.node.now) top.known) same top.holds);
    }

pub returns : goal.returns
returns c = left_behind c.args.root.now c.args.boundary c.children.result.now c.from_index.result.now c.children.ensures c.from_index.ensures c.requires.boundary
