use Rattle.typst_protocol.proofs.Cited.{◌≤◌, ◌++◌, arith, rules, take, length-append, length-take-le, common_steps, Consumes-trans}
use Rattle.typst_protocol.proofs.frames.bytes.skip.Goals as goal

pub loop-left-preserved : goal.loop-left-preserved
loop-left-preserved g c =
    let before = c.loop-left.invariant in
    let more = take c.in_ok-passed.passed c.read.new.bytes in
    let small : c.in_ok-passed.passed ≤ c.loop-left.left = first_of (search rules, grind (arith, common_steps), omega (arith, c.in_ok-passed.ensures.bound, c.min-most.ensures, c.read.auto.bytes)) in
    record {
      bytes = before.bytes ++ more;
      count = omega (arith, before.count, small, c.in_ok-passed.ensures.bound, length-append before.bytes more, length-take-le c.in_ok-passed.passed c.read.new.bytes c.in_ok-passed.ensures.bound);
      taken = Consumes-trans _ _ _ before.bytes more before.taken c.in_ok-passed.ensures.taken;
    }
