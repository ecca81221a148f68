use Rattle.typst_candidates.proofs.Cited.{common_steps, sym, arith}
use Rattle.typst_candidates.proofs.Starts.{after-run, no-first, not-placed, stands-in-run, within-rises}
use Rattle.typst_candidates.proofs.records.Records.run_after.Goals as goal

pub returns-in_default : goal.returns-in_default
returns-in_default c = grind (arith, no-first, not-placed)

pub later_place-later-requires-clause-order : goal.later_place-later-requires-clause-order
later_place-later-requires-clause-order c =
    grind (arith, common_steps, stands-in-run c.args.place.now c.in-Some.first c.next.new.self c.next.result (sym c.in-Some.ensures) c.next.ensures.entry c.next.ensures.place)

pub later_place-later-requires-clause-run : goal.later_place-later-requires-clause-run
later_place-later-requires-clause-run c = grind (arith, stands-in-run)

pub invariant_of-result : goal.invariant_of-result
invariant_of-result c = grind (arith, within-rises)

pub returns : goal.returns
returns c = grind (arith, common_steps, after-run)
