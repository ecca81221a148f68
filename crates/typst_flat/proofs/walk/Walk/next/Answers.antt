use Rattle.typst_flat.proofs.Cited.{◌-◌, ◌^◌, ◌<◌, Some, ap, sym, subst, arith, nodes, linked, parent, Takes, rows}
use Rattle.typst_flat.proofs.Steps.{beyond, came, parent_is, ready_along, size_told, skipped, some_nodes, within}
use Rattle.typst_flat.proofs.walk.Walk.next.Goals as goal

pub returns-then-meets-clause-comes : goal.returns-then-meets-clause-comes
returns-then-meets-clause-comes c = grind (arith, came, parent_is)

pub returns-then-offset-self-clause-comes : goal.returns-then-offset-self-clause-comes
returns-then-offset-self-clause-comes c = grind (arith, beyond)

pub overflow_add-self : goal.overflow_add-self
overflow_add-self c =
    let w = c.nodes.self in
    let v = c.come.new.self in
    let here : Takes w (Some (c.in-Some.node, c.in-Some.parent)) v = subst (λ o. Takes w o v) c.in-Some.is c.come.ensures.takes in
    let few : nodes w.root.now < 2 ^ 64 - 1 = subst (λ t. nodes t < 2 ^ 64 - 1) (sym c.nodes.invariant.root) c.requires.counted in
    let size = size_told w.root.now w.number c.in-Some.parent c.descendants.result (rows v) c.get.result.now (linked c.in-Some.node) here.1 c.get.ensures here.0 c.descendants.ensures few in
    omega (arith, size, within w.root.now w.number c.in-Some.parent (rows v) here.1, c.come.ensures.number, few)

pub nodes-smaller : goal.nodes-smaller
nodes-smaller c =
    let w = c.nodes.self in
    let v = c.come.new.self in
    let here : Takes w (Some (c.in-Some.node, c.in-Some.parent)) v = subst (λ o. Takes w o v) c.in-Some.is c.come.ensures.takes in
    let few : nodes w.root.now < 2 ^ 64 - 1 = subst (λ t. nodes t < 2 ^ 64 - 1) (sym c.nodes.invariant.root) c.requires.counted in
    let size = size_told w.root.now w.number c.in-Some.parent c.descendants.result (rows v) c.get.result.now (linked c.in-Some.node) here.1 c.get.ensures here.0 c.descendants.ensures few in
    omega (arith, size, within w.root.now w.number c.in-Some.parent (rows v) here.1, some_nodes w.root.now w.number c.in-Some.parent (rows v) here.1, c.come.ensures.number, ap nodes c.come.ensures.root)

pub nodes-preserved : goal.nodes-preserved
nodes-preserved c = grind (arith, size_told, ready_along, skipped)
