use Rattle.typst_candidates.proofs.Cited.{◌≡◌, ◌-◌, drop, ap, subst, arith, IsAnchor, EntryPlace, front_of, Kept}
use Rattle.typst_candidates.proofs.Anchors.{front-from}
use Rattle.typst_candidates.proofs.records.Records.front_place.Goals as goal

pub returns-then-reach-at-clause-count : goal.returns-then-reach-at-clause-count
returns-then-reach-at-clause-count c =
    let es = c.args.self.now.units.entries in
    let at = c.args.at in
    let a = c.self.inside.anchor in
    let h = subst (λ (k : Kept). IsAnchor k.units.entries a) c.self.view_is c.self.invariant.1 in
    let le = c.if-reach-at.true in
    let is = ap (λ (p : EntryPlace). p.number) c.word_cursor_at.ensures in
    let near : at - (at - a.start) ≡ a.start = omega (arith, le) in
    omega (arith, is, ap (λ n. front_of at (at - (at - a.start)) (drop n es)) is, ap (λ s. front_of at s (drop a.number es)) near, front-from es a at h le)
