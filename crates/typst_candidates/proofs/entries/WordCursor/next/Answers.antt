use Rattle.typst_candidates.proofs.Cited.{arith, slice_get_past}
use Rattle.typst_candidates.proofs.Words.{found-at, one-more, unpacked-length, wides-take}
use Rattle.typst_candidates.proofs.entries.WordCursor.next.Goals as goal

pub returns-in_err-word-clause-entry : goal.returns-in_err-word-clause-entry
returns-in_err-word-clause-entry c = grind (arith, slice_get_past, unpacked-length)

pub invariant_of-self : goal.invariant_of-self
invariant_of-self c = grind (arith, one-more)

pub returns-in-Some-clause-entry : goal.returns-in-Some-clause-entry
returns-in-Some-clause-entry c = grind (arith, found-at)

pub wide_at-entry-requires : goal.wide_at-entry-requires
wide_at-entry-requires c = grind (arith, one-more, wides-take)

pub overflow_add-self-2 : goal.overflow_add-self-2
overflow_add-self-2 c = grind (arith, one-more, wides-take)

pub invariant_of-self-2 : goal.invariant_of-self-2
invariant_of-self-2 c = grind (arith, one-more)

pub returns-clause-entry : goal.returns-clause-entry
returns-clause-entry c = grind (arith, found-at)
