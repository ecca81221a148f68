use Rattle.std.proofs.Common.{arith}
use Rattle.typst_styles.proofs.SoughtSteps.{begun, begun_rows, popped_left, popped_rows, popped_steps}
use Rattle.typst_styles.proofs.seeking.tokens_near.Goals as goal

pub loop-row-init : goal.loop-row-init
loop-row-init c =
    let root = c.args.wanted.now.root.now in
    record {
      found =
          begun c.args.wanted.now.within.now c.args.wanted.now.text.now root c.top-top.result c.in_ok-first.first c.pass_to.new.self c.new-found.result.items c.go_into.new.found.items c.new-rows.result.items c.push.new.self.items c.top-top.ensures c.in_ok-first.ensures
          c.pass_to.ensures.1 c.new-found.ensures.items c.in_ok-push.ensures.items c.new-rows.ensures.items;
      rows = begun_rows root c.pass_to.new.self c.new-rows.result.items c.push.new.self.items c.pass_to.ensures.0 c.in_ok-push.ensures.items c.new-rows.ensures.items;
    }

pub take_next-requires : goal.take_next-requires
take_next-requires c = (popped_rows c.args.wanted.now.root.now c.loop-row.rows.items c.pop.new.self.items c.in-Some.row c.in-Some.ensures.items c.loop-row.invariant.rows).1

pub loop-row-preserved : goal.loop-row-preserved
loop-row-preserved c = grind (arith, popped_left, popped_rows)

pub loop-row-smaller : goal.loop-row-smaller
loop-row-smaller c = omega (arith, c.in_ok-take_next.ensures.fewer, popped_steps c.loop-row.rows.items c.pop.new.self.items c.in-Some.row c.in-Some.ensures.items)
