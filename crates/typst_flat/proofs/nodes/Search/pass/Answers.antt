use Rattle.typst_flat.proofs.Cited.{refl, arith, Course, course}
use Rattle.typst_flat.proofs.Placing.{is_within, moves_one, stays_behind}
use Rattle.typst_flat.proofs.nodes.Search.pass.Goals as goal

pub overflow_add-result : goal.overflow_add-result
overflow_add-result c =
    let v : Course = course c.args.self c.args.next.here c.args.progress.now in
    omega (arith, is_within v c.args.next.node.now c.args.next.later.now c.requires.ready c.requires.row, c.requires.ready.counted)

pub returns : goal.returns
returns c =
    let v : Course = course c.args.self c.args.next.here c.args.progress.now in
    moves_one v _ (omega (arith, is_within v c.args.next.node.now c.args.next.later.now c.requires.ready c.requires.row)) refl
    (stays_behind v _ c.args.next.node.now c.args.next.later.now c.requires.ready c.requires.row c.requires.childless refl refl refl refl refl c.pass_to.ensures.joined c.pass_to.ensures.waiting)
