use Rattle.std.proofs.Common.{◌≤◌, length, arith}
use Rattle.typst_names.proofs.UsesFound.{last_found, last_passed}
use Rattle.typst_names.proofs.bindings.last_hiding.Goals as goal

pub returns-then-byte-hides_up_to-clause-last : goal.returns-then-byte-hides_up_to-clause-last
returns-then-byte-hides_up_to-clause-last c =
    let within : c.loop-last.last ≤ length c.args.names.now = omega (arith, c.loop-last.invariant.within, c.requires) in
    last_found c.args.text.now c.args.word.now c.args.byte c.loop-last.last c.args.count c.hides_up_to.result c.args.names.now _ c.loop-last-test.true within c.hides_up_to.ensures c.if-byte-hides_up_to.true c.loop-last.invariant.same

pub loop-last-preserved : goal.loop-last-preserved
loop-last-preserved c =
    let within : c.loop-last.last ≤ length c.args.names.now = omega (arith, c.loop-last.invariant.within, c.requires) in
    record {
      within = omega (arith, c.loop-last.invariant.within);
      same = last_passed c.args.text.now c.args.word.now c.args.byte c.loop-last.last c.args.count c.hides_up_to.result c.args.names.now _ c.loop-last-test.true within c.hides_up_to.ensures c.if-byte-hides_up_to.false c.loop-last.invariant.same;
    }
