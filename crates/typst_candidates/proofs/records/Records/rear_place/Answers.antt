use Rattle.typst_candidates.proofs.Cited.{common_steps, ◌≡◌, List, ap, drop, subst, ◌∙◌, arith, Entry, EntryPlace, GoBack, Kept}
use Rattle.typst_candidates.proofs.Blocks.{back-more, back-on, rear-from}
use Rattle.typst_candidates.proofs.records.Records.rear_place.Goals as goal

pub returns-then-go_after-clause-later : goal.returns-then-go_after-clause-later
returns-then-go_after-clause-later c =
    let p = c.cursor_from-place.result in
    let most = c.max-most.result in
    let last : c.self.inside.back ≡ c.args.self.now.units.back = ap (λ (k : Kept). k.units.back) c.self.view_is in
    let is = ap (λ (r : EntryPlace). r.entries) c.cursor_from-place.ensures in
    let all : GoBack most (drop p.number p.entries) = back-more (drop p.number p.entries) c.farthest_back.result most (omega arith) c.farthest_back.ensures in
    let here : GoBack most (drop p.number c.args.self.now.units.entries) = subst (λ (us : List Entry). GoBack most (drop p.number us)) is all in
    let later : GoBack most (drop c.go_after.new.place.number c.args.self.now.units.entries) = back-on _ p.number c.go_after.new.place.number most c.go_after.ensures.on here in
    let same : c.go_after.new.place.entries ≡ c.args.self.now.units.entries = c.go_after.ensures.entries ∙ is in
    grind (arith, common_steps, rear-from)
