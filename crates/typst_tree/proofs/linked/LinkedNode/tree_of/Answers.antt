use Rattle.typst_tree.proofs.Cited.{ap, arith, get_or, sym, ◌∙◌, nodes}
use Rattle.typst_tree.proofs.Branches.{tops_of}
use Rattle.typst_tree.proofs.Forks.{Tops, index_within}
use Rattle.typst_tree.proofs.linked.LinkedNode.tree_of.Goals as goal
use Rattle.typst_tree.proofs.linked.LinkedNode.tree_of.Goals.{After-index-children-index}

pub bounds-children-index : goal.bounds-children-index
bounds-children-index c = grind (arith, index_within)

-- the tree at the known index
here : (c : After-index-children-index) → Tops c.args.self.root.now c.args.owner.node.now c.args.owner.number c.args.self.number c.args.self.offset (nodes c.args.self.node.now) c.args.self.known c.index-children-index.result
here c =
    let x = c.index-children-index.result in
    let xs = c.children.result.now in
    tops_of c.args.self c.args.owner xs x c.requires.root (sym c.reach.ensures ∙ c.in-Placed.is) c.requires.fork c.children.ensures (c.index-children-index.is ∙ ap (λ i. get_or xs i x) c.index-index.ensures) (omega (arith, c.if-self-lt18446744073709551615.true))

pub overflow_sub-spot : goal.overflow_sub-spot
overflow_sub-spot c = omega (arith, (here (goal.at.overflow_sub-spot c).After-index-children-index).after, c.from.ensures)

pub overflow_sub-spot-2 : goal.overflow_sub-spot-2
overflow_sub-spot-2 c = omega (arith, (here (goal.at.overflow_sub-spot-2 c).After-index-children-index).far, c.from-2.ensures)

pub returns : goal.returns
returns c =
    let w = here (goal.at.returns c).After-index-children-index in
    record {
      child = rw (c.from.ensures, c.index-index.ensures) w.child;
      stands = rw (c.from.ensures, c.from-2.ensures) w.stands;
      from = omega arith;
      to = omega (arith, w.after, w.fits, c.from.ensures);
    }
