use Rattle.typst_tree.proofs.Cited.{common_steps, ◌≡◌, ◌+◌, ◌∷◌, ap, sym, ◌∙◌, arith, length, map, refl, forest, places, count, nodes, trees, saturated, text_of, at, numbers}
use Rattle.typst_tree.proofs.Forks.{holds_child, later}
use Rattle.typst_tree.proofs.NodesOfStretch.{Row, row, stands_same}
use Rattle.typst_tree.proofs.Rows.{first_of_row, index_counted}
use Rattle.typst_tree.proofs.WalksInPreorder.{length_places}
use Rattle.typst_tree.proofs.linked.LinkedChildrenIterator.next.Goals as goal
use Rattle.typst_tree.proofs.linked.LinkedChildrenIterator.next.Goals.{After-saturating_add}

pub overflow_add-self : goal.overflow_add-self
overflow_add-self c = grind (arith, common_steps, length_places, stands_same)

pub overflow_add-self-2 : goal.overflow_add-self-2
overflow_add-self-2 c = grind (arith, first_of_row, index_counted, length_places)

pub known_of-requires : goal.known_of-requires
known_of-requires c =
    record { number = omega (arith, c.args.self.now.before); offset = later _ _ _ _ _ _ _ c.args.self.now.node c.args.self.now.stands (omega (arith, c.args.self.now.before)) }

pub invariant_of-child : goal.invariant_of-child
invariant_of-child c =
    let s = c.args.self.now in
    let p = s.parent in
    let t = c.in_ok-node.node.now in
    let r = row (places s.root.now) s.number s.offset t c.in_ok-node.rest.now (saturated (nodes t)) (saturated (length (text_of t))) (saturated (s.offset + saturated (length (text_of t)))) (omega (arith, length_places s.root.now, s.counted)) (stands_same _ _ _ _ _ c.in_ok-node.ensures.cases.0 s.stands) refl refl refl in
    let w = first_of_row (trees p.node.now.kids) s.index t c.in_ok-node.rest.now (sym s.row ∙ c.in_ok-node.ensures.cases.0) in
    grind (arith, common_steps, holds_child)

here : (c : After-saturating_add) → Row (places c.args.self.now.root.now) c.args.self.now.number c.args.self.now.offset c.in_ok-node.node.now c.in_ok-node.rest.now c.descendants.result c.len.result c.saturating_add.result
here c =
    let s = c.args.self.now in
    row _ _ _ _ _ _ _ _ (omega (arith, length_places s.root.now, s.counted)) (stands_same _ _ _ _ _ c.in_ok-node.ensures.cases.0 s.stands) c.descendants.ensures c.len.ensures c.saturating_add.ensures

-- the child comes before those that are left
steps : (c : After-saturating_add) → map (at c.args.self.now.root.now) (numbers c.args.self.now.number (forest c.args.self.now.rest.now)) ≡ at c.args.self.now.root.now c.args.self.now.number ∷ map (at c.args.self.now.root.now) (numbers (c.args.self.now.number + c.descendants.result) (forest c.in_ok-node.rest.now))
steps c =
    let next : c.args.self.now.number + 1 + count c.in_ok-node.node.now.kids ≡ c.args.self.now.number + c.descendants.result = omega (arith, (here c).exact) in
    grind (arith, common_steps)

pub invariant_of-self-2 : goal.invariant_of-self-2
invariant_of-self-2 c =
    let s = c.args.self.now in
    let r = here (goal.at.invariant_of-self-2 c).After-saturating_add in
    let w = first_of_row (trees s.parent.node.now.kids) s.index _ _ (sym s.row ∙ c.in_ok-node.ensures.cases.0) in
    record {
      counted = s.counted;
      stands = r.others;
      node = s.node;
      row = sym w.rest;
      before = omega (arith, s.before, r.exact, w.counted);
      ordered = s.ordered;
      holds = s.holds;
    }

pub returns-clause-steps : goal.returns-clause-steps
returns-clause-steps c = steps (goal.at.returns-clause-steps c).After-saturating_add

pub returns-clause-goes : goal.returns-clause-goes
returns-clause-goes c =
    let fewer = ap length (steps (goal.at.returns-clause-goes c).After-saturating_add) in
    record { on = λ _. (tt, tt, omega (arith, fewer)); keeps = tt; rests = λ _. tt }
