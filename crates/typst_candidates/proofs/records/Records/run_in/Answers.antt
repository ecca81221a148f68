use Rattle.typst_candidates.proofs.Cited.{common_steps, ◌≡◌, ◌==◌, ◌&&◌, false, sym, arith, Some, nat_tests, slice_get_within, opens_content, start_at, token_at, slice_get}
use Rattle.typst_candidates.proofs.Openings.{not-opened, opened}
use Rattle.typst_candidates.proofs.Cursors.{cut, nothing-left, end-step, in-on}
use Rattle.typst_candidates.proofs.records.Records.run_in.Goals as goal

pub returns-in_default : goal.returns-in_default
returns-in_default c = not-opened c.args.at 0 0 c.args.self.now.units.entries (sym c.in_default.ensures)

pub cursor_at-place-requires : goal.cursor_at-place-requires
cursor_at-place-requires c = grind (arith, common_steps, opened c.args.at 0 0 c.in-Some.first c.args.self.now.units.entries (sym c.in-Some.ensures))

pub loop-entry-init : goal.loop-entry-init
loop-entry-init c =
    let es = c.args.self.now.units.entries in
    let o = opened c.args.at 0 0 c.in-Some.first es (sym c.in-Some.ensures) in
    grind (arith, common_steps)

pub returns-then-begins_content : goal.returns-then-begins_content
returns-then-begins_content c = grind (arith, nat_tests, cut, end-step)

pub loop-entry-smaller : goal.loop-entry-smaller
loop-entry-smaller c = grind (arith, slice_get_within)

pub loop-entry-preserved : goal.loop-entry-preserved
loop-entry-preserved c =
    let p = c.loop-entry.place in
    let there : slice_get c.args.self.now.units.entries p.number ≡ Some c.in-Some-next.entry = cc in
    let token : c.start.result ≡ token_at (start_at p) c.in-Some-next.entry = grind (arith, end-step) in
    let test : (opens_content c.in-Some-next.entry.kind && token_at (start_at p) c.in-Some-next.entry == c.args.at) ≡ false = cc in
    record { entries = grind arith; later = grind (arith, end-step, in-on _ c.args.at (start_at p) p.number _ false there test) }

pub returns : goal.returns
returns c = grind (arith, nothing-left)
