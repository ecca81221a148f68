use Rattle.typst_candidates.proofs.Cited.{◌≡◌, false, ◌-◌, ◌≤◌, ◌==◌, ◌&&◌, Some, drop, length-drop, refl, arith, ◌+◌, ap, sym, ◌∙◌, is_opening, opening_of, slice_get, EntryPlace, nat_tests}
use Rattle.std.proofs.lemmas.List.{drop-drop}
use Rattle.typst_candidates.proofs.Blocks.{opening-over}
use Rattle.typst_candidates.proofs.Cursors.{cut, entry_steps, nothing-left}
use Rattle.typst_candidates.proofs.Passes.{opening-on, same-place}
use Rattle.typst_candidates.proofs.Walks.{opening-past}
use Rattle.typst_candidates.proofs.records.Records.opening.Goals as goal

pub entries-preserved-in-Some : goal.entries-preserved-in-Some
entries-preserved-in-Some c =
    let es = c.args.self.now.units.entries in
    let p = c.entries.place in
    let q = c.pass_far.new.place in
    let at = c.args.at in
    let start = at - c.entries.left in
    let passes = c.in-Some.ensures.0 in
    let number : q.number ≡ p.number + 16 = ap (λ (r : EntryPlace). r.number) passes.new_is in
    let there = passes.span_is start in
    let over = opening-over 16 at start p.number (drop p.number p.entries) (omega (arith, passes.within, length-drop p.number p.entries)) (omega (arith, there, c.in-Some.ensures.1)) in
    let rest : drop 16 (drop p.number p.entries) ≡ drop q.number es = drop-drop 16 p.number p.entries ∙ ap (λ m. drop m p.entries) (omega (arith, number)) ∙ ap (drop q.number) c.entries.invariant.entries in
    let before = ap (λ us. opening_of at start p.number (drop p.number us)) c.entries.invariant.entries in
    let sum : start + c.in-Some.span ≡ at - (c.entries.left - c.in-Some.span) = omega (arith, c.in-Some.ensures.1) in
    let after = ap (λ m. opening_of at m (p.number + 16) (drop 16 (drop p.number p.entries))) (there ∙ sum)
    ∙ ap (λ n. opening_of at (at - (c.entries.left - c.in-Some.span)) n (drop 16 (drop p.number p.entries))) (sym number) ∙ ap (opening_of at (at - (c.entries.left - c.in-Some.span)) q.number) rest in
    record { entries = grind arith; within = grind arith; later = sym (sym before ∙ over ∙ after) ∙ c.entries.invariant.later }

pub returns-in_err-entry : goal.returns-in_err-entry
returns-in_err-entry c = grind (arith, nothing-left)

pub returns-in_err-left : goal.returns-in_err-left
returns-in_err-left c = grind (arith, nat_tests, cut, opening-past, c.in_err-left.ensures.none refl)

pub returns-then-opens_at : goal.returns-then-opens_at
returns-then-opens_at c = let split = c.in_ok-left.ensures.some c.in_ok-left.left refl in grind (arith, nat_tests, cut)

pub entries-smaller : goal.entries-smaller
entries-smaller c = grind (arith, entry_steps)

pub entries-preserved : goal.entries-preserved
entries-preserved c =
    let n = c.pass_far.new.place.number in
    let rest = c.in_ok-left.left in
    let there : slice_get c.args.self.now.units.entries n ≡ Some c.in_ok-entry.entry = grind arith in
    let fits : rest ≤ c.args.at = grind arith in
    let same = same-place c.args.at rest fits in
    let test : (is_opening c.in_ok-entry.entry.kind && (c.args.at - rest) == c.args.at) ≡ false = cc in
    let on = opening-on _ c.args.at (c.args.at - c.entries.left) n (c.args.at - rest) c.in_ok-entry.entry there (grind arith) in
    record { entries = grind arith; within = fits; later = grind (arith, rw test at on) }
