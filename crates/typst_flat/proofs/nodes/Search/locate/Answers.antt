use Rattle.typst_flat.proofs.Cited.{refl, arith, Course, course, PlacedNode}
use Rattle.typst_flat.proofs.Placing.{is_placed}
use Rattle.typst_flat.proofs.nodes.Search.locate.Goals as goal

pub returns-clause-placed : goal.returns-clause-placed
returns-clause-placed c =
    let v : Course = course c.args.self c.args.next.here c.args.progress.now in
    let g : PlacedNode = record { node = c.args.next.node; start = c.offset-start.result; end = c.saturating_add-end.result; number = v.number; parent = v.parent; tag = c.in_ok-code.code.code; name = c.in_ok-code.code.name } in
    is_placed v c.args.next.node.now c.args.next.later.now g c.requires.ready c.requires.row refl c.offset-start.ensures (omega (arith, c.saturating_add-end.ensures, c.len.ensures)) refl refl c.in_ok-code.ensures.code
