use Rattle.std.proofs.lemmas.Grind.{common_steps}
use Rattle.typst_flat.proofs.Cited.{◌<◌, sym, subst, arith, nodes, at, offset_of, Course, IsFilled, course}
use Rattle.typst_flat.specs.declared.nodes.Search.{Search}
use Rattle.typst_flat.proofs.Filled.{put_all, put_on}
use Rattle.typst_flat.proofs.Placing.{at_root, is_within}
use Rattle.typst_flat.proofs.Small.{small_numbers}
use Rattle.typst_flat.proofs.Steps.{beyond, ended}
use Rattle.typst_flat.proofs.Whole.{ahead_first, met_most}
use Rattle.typst_flat.proofs.fill.fill_met.Goals as goal

pub nodes-init : goal.nodes-init
nodes-init c = grind (arith, at_root, ahead_first)

pub returns-then-placed-stretch : goal.returns-then-placed-stretch
returns-then-placed-stretch c =
    let n = c.in-Some.next.here.number in
    let before : IsFilled c.args.stretch c.args.root.now n c.nodes.count c.nodes.room c.args.room.now = subst (λ k. IsFilled c.args.stretch c.args.root.now k c.nodes.count c.nodes.room c.args.room.now) (sym c.in-Some.ensures.0) c.nodes.invariant.put in
    let late : c.args.stretch.end < offset_of (at c.args.root.now n) = omega (arith, c.if-placed-stretch.true, c.in_ok-placed.ensures.placed.start) in
    let all = put_all c.args.stretch c.args.root.now n c.nodes.count c.nodes.room c.args.room.now (beyond c.args.stretch c.args.root.now n late) before in
    record { count = all.count_is; room = all.array_is }

pub plain_record-requires-clause-small : goal.plain_record-requires-clause-small
plain_record-requires-clause-small c = grind (arith, is_within, small_numbers)

pub put_met-count-requires : goal.put_met-count-requires
put_met-count-requires c = omega (arith, c.nodes.invariant.put.short, met_most c.args.stretch c.args.root.now, c.requires.counted)

pub nodes-preserved-then-is_plain : goal.nodes-preserved-then-is_plain
nodes-preserved-then-is_plain c =
    let s : Search = record { root = c.args.root; stretch = c.args.stretch; near = c.args.near } in
    let n = c.in-Some.next in
    let v : Course = course s n.here c.come.new.progress in
    let before : IsFilled c.args.stretch c.args.root.now n.here.number c.nodes.count c.nodes.room c.args.room.now = subst (λ k. IsFilled c.args.stretch c.args.root.now k c.nodes.count c.nodes.room c.args.room.now) (sym c.in-Some.ensures.0) c.nodes.invariant.put in
    let less : n.here.number < nodes c.args.root.now = omega (arith, is_within v n.node.now n.later.now c.in-Some.ensures.1.1 c.in-Some.ensures.1.0) in
    let here = c.put_met-count.ensures c.args.root.now n.here.number c.args.room.now less c.in_ok-placed.ensures.placed (c.plain_record.ensures (at c.args.root.now n.here.number) c.in_ok-placed.ensures.placed) (omega (arith, c.if-placed-stretch.false)) before in
    grind (arith, common_steps, put_on)

pub record-requires : goal.record-requires
record-requires c = grind (arith, is_within, small_numbers)

pub put_met-count-requires-in-Some : goal.put_met-count-requires-in-Some
put_met-count-requires-in-Some c = omega (arith, c.nodes.invariant.put.short, met_most c.args.stretch c.args.root.now, c.requires.counted)

pub nodes-preserved : goal.nodes-preserved
nodes-preserved c =
    let s : Search = record { root = c.args.root; stretch = c.args.stretch; near = c.args.near } in
    let n = c.in-Some.next in
    let v : Course = course s n.here c.come.new.progress in
    let before : IsFilled c.args.stretch c.args.root.now n.here.number c.nodes.count c.nodes.room c.args.room.now = subst (λ k. IsFilled c.args.stretch c.args.root.now k c.nodes.count c.nodes.room c.args.room.now) (sym c.in-Some.ensures.0) c.nodes.invariant.put in
    let less : n.here.number < nodes c.args.root.now = omega (arith, is_within v n.node.now n.later.now c.in-Some.ensures.1.1 c.in-Some.ensures.1.0) in
    let here = c.put_met-count-in-Some.ensures c.args.root.now n.here.number c.args.room.now less c.in_ok-placed.ensures.placed (c.record.ensures (at c.args.root.now n.here.number) c.in_ok-placed.ensures.placed) (omega (arith, c.if-placed-stretch.false)) before in
    grind (arith, common_steps, put_on)

pub returns : goal.returns
returns c =
    let all = put_all c.args.stretch c.args.root.now c.nodes.here.number c.nodes.count c.nodes.room c.args.room.now (ended c.args.stretch c.args.root.now c.nodes.here.number c.in_default.ensures) c.nodes.invariant.put in
    record { count = all.count_is; room = all.array_is }
