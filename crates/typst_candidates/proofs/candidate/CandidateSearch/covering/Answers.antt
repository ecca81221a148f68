use Rattle.std.proofs.Common.{arith}
use Rattle.typst_candidates.proofs.Stops.{is-covering, kid-is, kids-are, not-covering, past-covering}
use Rattle.typst_candidates.proofs.candidate.CandidateSearch.covering.Goals as goal

pub returns-in_err-child-clause-none : goal.returns-in_err-child-clause-none
returns-in_err-child-clause-none c = grind (arith, past-covering, kids-are)

pub returns-then-not-covers-clause-none : goal.returns-then-not-covers-clause-none
returns-then-not-covers-clause-none c = grind (arith, not-covering, kid-is)

pub returns-clause-some : goal.returns-clause-some
returns-clause-some c = grind (arith, is-covering, kid-is)
