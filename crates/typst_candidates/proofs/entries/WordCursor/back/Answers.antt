use Rattle.std.proofs.Common.{◌≡◌, suc, arith}
use Rattle.typst_candidates.proofs.Words.{found-at, one-more, wides-take}
use Rattle.typst_candidates.proofs.entries.WordCursor.back.Goals as goal

pub invariant_of-self : goal.invariant_of-self
invariant_of-self c = let one : c.self.inside.number ≡ suc c.in_ok-self-inside.field-0 = omega arith in grind (arith, one-more)

pub returns-in-Some-clause-entry : goal.returns-in-Some-clause-entry
returns-in-Some-clause-entry c = let one : c.self.inside.number ≡ suc c.in_ok-self-inside.field-0 = omega arith in grind (arith, found-at)

pub overflow_sub-self : goal.overflow_sub-self
overflow_sub-self c = let one : c.self.inside.number ≡ suc c.in_ok-self-inside.field-0 = omega arith in grind (arith, one-more)

pub wide_at-requires : goal.wide_at-requires
wide_at-requires c = let one : c.self.inside.number ≡ suc c.in_ok-self-inside.field-0 = omega arith in grind (arith, one-more, wides-take)

pub invariant_of-self-2 : goal.invariant_of-self-2
invariant_of-self-2 c = let one : c.self.inside.number ≡ suc c.in_ok-self-inside.field-0 = omega arith in grind (arith, one-more)

pub returns-clause-entry : goal.returns-clause-entry
returns-clause-entry c = let one : c.self.inside.number ≡ suc c.in_ok-self-inside.field-0 = omega arith in grind (arith, one-more, found-at)
