use Rattle.typst_tokens.proofs.Cited.{◌∙◌, ap, place, saw}
use Rattle.typst_tokens.proofs.Sights.{peeked}
use Rattle.typst_tokens.proofs.cursor.Cursor.peek.Goals as goal

pub returns-clause-sight : goal.returns-clause-sight
returns-clause-sight c =
    let i = c.self.inside in
    peeked 0 (place i.s) (place c.eat-c.new.self) c.eat-c.result i.reach i.least c.max-self-inside.result c.end_of.result c.max-self-inside.ensures c.end_of.ensures c.eat-c.ensures.moved c.eat-c.ensures.next
    ∙ ap (saw 1) c.self.view_is
