use Rattle.typst_tokens.proofs.Cited.{◌∙◌, ap, place, saw}
use Rattle.typst_tokens.proofs.Sights.{peeked, two-moved, two-scout}
use Rattle.typst_tokens.proofs.cursor.Cursor.second.Goals as goal

pub returns-clause-sight : goal.returns-clause-sight
returns-clause-sight c =
    let i = c.self.inside in
    let one = place c.eat.new.self in
    peeked 1 (place i.s) (place c.eat-c.new.self) c.eat-c.result i.reach i.least c.max-self-inside.result c.end_of.result c.max-self-inside.ensures c.end_of.ensures
    (two-moved (place i.s) one (place c.eat-c.new.self) c.eat.ensures.moved c.eat-c.ensures.moved) (two-scout (place i.s) one c.eat-c.result c.eat.ensures.moved c.eat-c.ensures.next)
    ∙ ap (saw 2) c.self.view_is
