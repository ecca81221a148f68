use Rattle.typst_flat.proofs.Cited.{None, refl, arith, Course, course, Waiting}
use Rattle.typst_flat.proofs.Placing.{is_within, stays_below}
use Rattle.typst_flat.proofs.nodes.Search.go_below.Goals as goal

pub overflow_add-result : goal.overflow_add-result
overflow_add-result c =
    let v : Course = course c.args.self c.args.next.here c.args.progress.now in
    omega (arith, is_within v c.args.next.node.now c.args.next.later.now c.requires.ready c.requires.row, c.requires.ready.counted)

pub returns-clause-ready : goal.returns-clause-ready
returns-clause-ready c =
    let v : Course = course c.args.self c.args.next.here c.args.progress.now in
    let x : Waiting = record { nodes = c.args.next.later; start = c.args.end; level = v.progress.level; kept = None; parent = v.parent } in
    stays_below v _ c.args.next.node.now c.args.next.later.now x c.requires.ready c.requires.row c.requires.inner refl refl refl c.narrow.ensures c.children.ensures c.in_ok-enter_from.ensures.inside c.in_ok-enter_from.ensures.waiting refl c.requires.ends refl refl
