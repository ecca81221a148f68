use Rattle.typst_tokens.proofs.Cited.{suc, ◌∙◌, ap, sym, moved, place, Sight, saw}
use Rattle.typst_tokens.proofs.Ahead.{seen-to}
use Rattle.typst_tokens.proofs.cursor.Cursor.saw_to.Goals as goal

pub returns-clause-sight : goal.returns-clause-sight
returns-clause-sight c = λ n h.
    let i = c.self.inside in
    seen-to n (place i.s) (place c.args.end.now) (place c.eat-c.new.self) c.eat-c.result i.reach i.least c.max-self-inside.result c.end_of.result c.max-self-inside.ensures c.end_of.ensures c.eat-c.ensures.moved c.eat-c.ensures.next
    (h ∙ sym (ap (λ (v : Sight). moved n v.place) c.self.view_is))
    ∙ ap (saw (suc n)) c.self.view_is
