use Rattle.typst_candidates.proofs.Cited.{append_assoc, arith, ◌≡◌, ◌++◌, ◌∙◌, Some, ap, sym, slice_get_within, append-nil, slice_get, start_at, token_at}
use Rattle.typst_candidates.proofs.Cursors.{nothing-left, end-step}
use Rattle.typst_candidates.proofs.Starts.{within-on, within-past, within-stop}
use Rattle.typst_candidates.proofs.cursor.EntryCursor.starts.Goals as goal

pub loop-entry-init : goal.loop-entry-init
loop-entry-init c = grind arith

pub returns-in_default : goal.returns-in_default
returns-in_default c = grind (arith, nothing-left, append-nil)

pub returns-then-start-window : goal.returns-then-start-window
returns-then-start-window c =
    let p = c.loop-entry.place in
    let there : slice_get c.args.self.now.entries p.number ≡ Some c.in-Some.entry = cc in
    let past = within-past c.args.window _ c.loop-entry.inside (start_at p) p.number c.in-Some.entry there (grind (arith, end-step)) in
    sym (append-nil c.loop-entry.starts.items) ∙ ap (λ us. c.loop-entry.starts.items ++ us) (sym past) ∙ c.loop-entry.invariant.later

pub returns-in_default-inside_after : goal.returns-in_default-inside_after
returns-in_default-inside_after c =
    let p = c.loop-entry.place in
    let there : slice_get c.args.self.now.entries p.number ≡ Some c.in-Some.entry = cc in
    let token : c.start-in-loop-entry.result ≡ token_at (start_at p) c.in-Some.entry = grind (arith, end-step) in
    grind (arith, within-stop c.args.window _ c.loop-entry.inside (start_at p) p.number _ there (sym c.in_default-inside_after.ensures) (grind arith))

pub loop-entry-smaller : goal.loop-entry-smaller
loop-entry-smaller c = grind (arith, slice_get_within)

pub loop-entry-preserved : goal.loop-entry-preserved
loop-entry-preserved c =
    let p = c.loop-entry.place in
    let there : slice_get c.args.self.now.entries p.number ≡ Some c.in-Some.entry = cc in
    let token : c.start-in-loop-entry.result ≡ token_at (start_at p) c.in-Some.entry = grind (arith, end-step) in
    let on = within-on c.args.window _ c.loop-entry.inside (start_at p) p.number c.in-Some-inside_after.further _ there (sym c.in-Some-inside_after.ensures) (grind arith) in
    record { entries = grind arith; few = grind arith; later = grind (arith, end-step, append_assoc, on) }
