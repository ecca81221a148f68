use Rattle.typst_tokens.proofs.Cited.{◌∙◌, ap, place, saw_back}
use Rattle.typst_tokens.proofs.Sights.{glanced, second-start-is}
use Rattle.typst_tokens.proofs.cursor.Cursor.second_last.Goals as goal

pub returns-clause-sight : goal.returns-clause-sight
returns-clause-sight c =
    let i = c.self.inside in
    let z = place i.s in
    let at = second-start-is z (place c.uneat.new.self) (place c.uneat-c.new.self) c.uneat-c.result c.start_of.result c.start_of.ensures c.uneat.ensures.moved c.uneat-c.ensures.moved c.uneat-c.ensures.last in
    glanced 2 z i.reach i.least c.min-self-inside.result c.start_of.result c.min-self-inside.ensures at.1 ∙ ap (saw_back 2) c.self.view_is
