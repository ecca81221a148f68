use Rattle.typst_candidates.proofs.Cited.{◌-◌, drop, ap, subst, ◌∙◌, arith, IsAnchor, EntryPlace, Kept, opening_of}
use Rattle.typst_candidates.proofs.Anchors.{opening-around, opening-from}
use Rattle.typst_candidates.proofs.records.Records.opening_place.Goals as goal

pub returns-then-start-at-clause-later : goal.returns-then-start-at-clause-later
returns-then-start-at-clause-later c = grind (arith, opening-from)

pub returns-then-outer-at-clause-later : goal.returns-then-outer-at-clause-later
returns-then-outer-at-clause-later c =
    let es = c.args.self.now.units.entries in
    let at = c.args.at in
    let a = c.self.inside.anchor in
    let h = subst (λ (k : Kept). IsAnchor k.units.entries a) c.self.view_is c.self.invariant.1 in
    let lt = c.if-outer-at.true in
    let n = c.saturating_sub.result in
    let is = ap (λ (p : EntryPlace). p.number) c.word_cursor_at-then-outer-at.ensures in
    ap (λ m. opening_of at (at - (at - a.outer)) m (drop m es)) is
    ∙ ap (λ s. opening_of at s n (drop n es)) (omega (arith, lt)) ∙ opening-around es a at n h (omega (arith, c.saturating_sub.ensures)) lt
