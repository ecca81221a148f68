use Rattle.typst_tree.proofs.Cited.{◌∙◌, ap, arith, subst, sym, nodes, IsChild, IsOpen}
use Rattle.typst_tree.proofs.Rows.{length_row}
use Rattle.typst_tree.proofs.Branches.{inside_top, stands_in}
use Rattle.typst_tree.proofs.Forks.{ends_by, open_child, open_root}
use Rattle.typst_tree.proofs.NodesOfStretch.{stands_get}
use Rattle.typst_tree.proofs.linked.LinkedNode.fork.Goals as goal

pub loop-over-init : goal.loop-over-init
loop-over-init c =
    let root = ap (λ a. a.root) c.top-over.ensures in
    let number = ap (λ a. a.number) c.top-over.ensures in
    record {
      root = root;
      from = omega (arith, number);
      to = inside_top c.args.self c.top-over.result root number;
      clear = subst (IsOpen c.args.self.root.now) (sym number) (open_root c.args.self.root.now);
    }

pub returns-then-children-gt-LONG : goal.returns-then-children-gt-LONG
returns-then-children-gt-LONG c = grind (arith, stands_get, stands_in, length_row)

pub returns-then-end-least : goal.returns-then-end-least
returns-then-end-least c =
    let over = c.loop-over.over in
    let i = c.loop-over.invariant in
    ends_by c.args.self.root.now c.args.self.number c.args.least over.node.now over.number over.offset (stands_in over i.root) i.clear i.from i.to (omega (arith, c.if-end-least.true, c.end.ensures))

pub loop-over-preserved : goal.loop-over-preserved
loop-over-preserved c =
    let over = c.loop-over.over in
    let i = c.loop-over.invariant in
    let kid = c.child_over.result in
    let child : IsChild over.node.now over.number kid.spot.node.now c.child-over.result.number kid.index = rw (c.child-over.ensures.number) c.child_over.ensures.child in
    record {
      root = c.child-over.ensures.root ∙ i.root;
      from = omega (arith, c.child-over.ensures.number, c.child_over.ensures.from);
      to = omega (arith, c.child-over.ensures.number, ap nodes c.child-over.ensures.node, c.child_over.ensures.to);
      clear = open_child c.args.self.root.now over.node.now over.number over.offset kid.spot.node.now c.child-over.result.number kid.index (stands_in over i.root) child i.clear (omega (arith, c.if-children-gt-LONG.false, length_row _ _ c.children.ensures));
    }
