use Rattle.typst_flat.proofs.Cited.{[], arith, Course, course}
use Rattle.typst_flat.proofs.Placing.{is_within, stays_below_last}
use Rattle.typst_flat.proofs.nodes.Search.go_below_last.Goals as goal

pub overflow_add-result : goal.overflow_add-result
overflow_add-result c =
    let v : Course = course c.args.self c.args.next.here c.args.progress.now in
    omega (arith, is_within v c.args.next.node.now [] c.requires.ready c.requires.row, c.requires.ready.counted)

pub returns-clause-ready : goal.returns-clause-ready
returns-clause-ready c = grind (arith, stays_below_last)
