use Rattle.typst_candidates.proofs.Cited.{◌≡◌, ◌-◌, drop, length-drop, refl, arith, Some, ◌+◌, ap, ◌∙◌, slice_get, EntryPlace, front_of, nat_tests}
use Rattle.std.proofs.lemmas.List.{drop-drop}
use Rattle.typst_candidates.proofs.Blocks.{front-over}
use Rattle.typst_candidates.proofs.Cursors.{cut, entry_steps, nothing-left}
use Rattle.typst_candidates.proofs.Passes.{front-on}
use Rattle.typst_candidates.proofs.records.Records.front.Goals as goal

pub entries-preserved-in-Some : goal.entries-preserved-in-Some
entries-preserved-in-Some c =
    let es = c.args.self.now.units.entries in
    let p = c.entries.place in
    let q = c.pass_far.new.place in
    let at = c.args.at in
    let start = at - c.entries.left in
    let passes = c.in-Some.ensures.0 in
    let number : q.number ≡ p.number + 16 = ap (λ (r : EntryPlace). r.number) passes.new_is in
    let there = passes.span_is start in
    let over = front-over 16 at start (drop p.number p.entries) (omega (arith, passes.within, length-drop p.number p.entries)) passes.near (omega (arith, there, c.in-Some.ensures.1)) in
    let rest : drop 16 (drop p.number p.entries) ≡ drop q.number es = drop-drop 16 p.number p.entries ∙ ap (λ m. drop m p.entries) (omega (arith, number)) ∙ ap (drop q.number) c.entries.invariant.entries in
    let before = ap (λ us. front_of at start (drop p.number us)) c.entries.invariant.entries in
    let sum : start + c.in-Some.span ≡ at - (c.entries.left - c.in-Some.span) = omega (arith, c.in-Some.ensures.1) in
    let after = ap (λ m. front_of at m (drop 16 (drop p.number p.entries))) (there ∙ sum) ∙ ap (front_of at (at - (c.entries.left - c.in-Some.span))) rest in
    record { entries = grind arith; within = grind arith; count = omega (arith, before, over, after, number, c.entries.invariant.count) }

pub returns-in_default-next : goal.returns-in_default-next
returns-in_default-next c = grind (arith, nothing-left)

pub returns-in_default-left_after : goal.returns-in_default-left_after
returns-in_default-left_after c = grind (arith, nat_tests, cut, c.in_default-left_after.ensures.none refl)

pub returns-then-entry-rest : goal.returns-then-entry-rest
returns-then-entry-rest c = grind (arith, nat_tests, cut, c.in-Some-left_after.ensures.some c.in-Some-left_after.rest refl)

pub entries-smaller : goal.entries-smaller
entries-smaller c = grind (arith, entry_steps)

pub entries-preserved : goal.entries-preserved
entries-preserved c =
    let n = c.pass_far.new.place.number in
    let there : slice_get c.args.self.now.units.entries n ≡ Some c.in-Some-next.entry = grind arith in
    let on = front-on _ c.args.at (c.args.at - c.entries.left) n c.in-Some-next.entry there (grind arith) in
    record { entries = grind arith; within = grind arith; count = grind arith }
