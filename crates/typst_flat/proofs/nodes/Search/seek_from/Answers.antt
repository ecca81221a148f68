use Rattle.typst_flat.proofs.Cited.{◌∷◌, subst, arith, nodes, Course, IsSought, course}
use Rattle.typst_flat.proofs.Placing.{passes_on, sought_next, sought_within}
use Rattle.typst_flat.proofs.nodes.Search.seek_from.Goals as goal

pub overflow_add-number : goal.overflow_add-number
overflow_add-number c =
    let w : Course = course c.args.self c.nodes.at c.nodes.progress in
    let sought : IsSought w (c.in-Some.node.now ∷ c.in-Some.later.now) c.nodes.start c.nodes.number = subst (λ xs. IsSought w xs c.nodes.start c.nodes.number) c.in-Some.ensures.cases.0 c.nodes.invariant.sought in
    omega (arith, c.node_count-number.ensures, sought_within w c.in-Some.node.now c.in-Some.later.now c.nodes.start c.nodes.number sought, sought.stays.counted)

pub settle-at-requires : goal.settle-at-requires
settle-at-requires c =
    let w : Course = course c.args.self c.nodes.at c.nodes.progress in
    let sought : IsSought w (c.in-Some.node.now ∷ c.in-Some.later.now) c.nodes.start c.nodes.number = subst (λ xs. IsSought w xs c.nodes.start c.nodes.number) c.in-Some.ensures.cases.0 c.nodes.invariant.sought in
    record {
      start = c.nodes.start;
      first = c.nodes.number;
      sought = sought;
      ends = omega (arith, c.saturating_add-end.ensures, c.len.ensures);
      early = omega arith;
      number = omega (arith, c.node_count-number.ensures, sought_within w c.in-Some.node.now c.in-Some.later.now c.nodes.start c.nodes.number sought, sought.stays.counted);
    }

pub nodes-preserved-then-end-from : goal.nodes-preserved-then-end-from
nodes-preserved-then-end-from c = grind (arith, passes_on)

pub nodes-preserved : goal.nodes-preserved
nodes-preserved c = grind (arith, sought_next, sought_within)
