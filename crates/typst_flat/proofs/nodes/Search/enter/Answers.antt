use Rattle.typst_flat.proofs.Cited.{refl, arith, Course, course}
use Rattle.typst_flat.proofs.Placing.{is_within, moves_by, moves_one}
use Rattle.typst_flat.proofs.nodes.Search.enter.Goals as goal

pub returns-then-offset-self : goal.returns-then-offset-self
returns-then-offset-self c =
    let v : Course = course c.args.self c.args.next.here c.args.progress.now in
    moves_one v _ (omega (arith, is_within v c.args.next.node.now c.args.next.later.now c.requires.ready c.requires.row)) c.in_ok-below.ensures.number c.in_ok-below.ensures.ready

pub returns : goal.returns
returns c =
    let v : Course = course c.args.self c.args.next.here c.args.progress.now in
    moves_by v (course c.args.self c.in_ok-below.below c.go_below.new.progress) _ (omega (arith, is_within v c.args.next.node.now c.args.next.later.now c.requires.ready c.requires.row)) refl refl c.in_ok-below.ensures.number c.seek-after.ensures.passes c.seek-after.ensures.ready
