use Rattle.typst_candidates.proofs.Cited.{arith, ◌≡◌, nat_tests}
use Rattle.typst_candidates.proofs.Cursors.{cut, end-step}
use Rattle.typst_candidates.proofs.run.pass_other_pieces.Goals as goal

pub returns-then-start-at : goal.returns-then-start-at
returns-then-start-at c = let same : c.back.new.self ≡ c.loop-place.place = grind arith in record { entries = grind arith; on = grind arith; piece = cc }

pub loop-place-preserved : goal.loop-place-preserved
loop-place-preserved c = record { entries = grind arith; on = grind arith; piece = grind (arith, nat_tests, cut, end-step) }
