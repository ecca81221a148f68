use Rattle.typst_candidates.proofs.Cited.{◌≡◌, ◌==◌, ◌&&◌, false, arith, Some, sym, nat_tests, slice_get_within, slice_get}
use Rattle.typst_candidates.specs.Cursors.{leads, token_at, start_at}
use Rattle.typst_candidates.proofs.Cursors.{cut, nothing-left, end-step, piece-on}
use Rattle.typst_candidates.proofs.cursor.EntryCursor.piece_from.Goals as goal

pub returns-in_err-entry : goal.returns-in_err-entry
returns-in_err-entry c = grind (arith, nothing-left)

pub returns-then-begins_piece : goal.returns-then-begins_piece
returns-then-begins_piece c = grind (arith, nat_tests, cut, end-step)

pub returns-in_err-inside : goal.returns-in_err-inside
returns-in_err-inside c = grind (arith, nat_tests, cut, end-step)

pub loop-entry-smaller : goal.loop-entry-smaller
loop-entry-smaller c = grind (arith, slice_get_within)

pub loop-entry-preserved : goal.loop-entry-preserved
loop-entry-preserved c =
    let p = c.pass_other_pieces.new.place in
    let there : slice_get c.args.self.now.entries p.number ≡ Some c.in_ok-entry.entry = grind arith in
    let token : c.start.result ≡ token_at (start_at p) c.in_ok-entry.entry = grind (arith, end-step) in
    let test : (leads c.in_ok-entry.entry.kind c.loop-entry.inside && token_at (start_at p) c.in_ok-entry.entry == c.args.at) ≡ false = cc in
    record { entries = grind arith; within = grind arith; later = grind (arith, end-step, piece-on _ c.args.at c.loop-entry.inside (start_at p) p.number _ false _ there test (sym c.in_ok-inside.ensures)) }
