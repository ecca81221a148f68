use Rattle.std.proofs.Common.{arith}
use Rattle.typst_lines.proofs.LinesFromLaw.{after-line, after-on, after-end, units-next}
use Rattle.typst_lines.proofs.LineTable.{units-front}
use Rattle.typst_lines.proofs.lines.LinesFromIterator.next.Goals as goal

pub overflow_add-utf16_idx : goal.overflow_add-utf16_idx
overflow_add-utf16_idx c = grind (arith, units-front)

pub overflow_add-utf16_idx-in-Some : goal.overflow_add-utf16_idx-in-Some
overflow_add-utf16_idx-in-Some c = grind (arith, units-next, units-front)

pub returns-then-ends_line-clause-steps : goal.returns-then-ends_line-clause-steps
returns-then-ends_line-clause-steps c = grind (arith, units-next, after-line)

pub returns-then-ends_line-clause-goes : goal.returns-then-ends_line-clause-goes
returns-then-ends_line-clause-goes c = grind (arith, returns-then-ends_line-clause-steps)

pub loop-c-preserved : goal.loop-c-preserved
loop-c-preserved c = grind (arith, units-next, after-on)

pub invariant_of-self : goal.invariant_of-self
invariant_of-self c = grind (arith, units-next)

pub returns-clause-steps : goal.returns-clause-steps
returns-clause-steps c = grind (arith, after-end)

pub overflow_add-utf16_idx-in-Some-2 : goal.overflow_add-utf16_idx-in-Some-2
overflow_add-utf16_idx-in-Some-2 c = grind (arith, units-next, units-front)
