use Rattle.typst_tokens.proofs.Cited.{◌∙◌, ap, IsUtf8-had, Sight, text_of}
use Rattle.typst_tokens.proofs.Sights.{text-is}
use Rattle.typst_tokens.proofs.cursor.Cursor.finish.Goals as goal

pub returns-clause-text : goal.returns-clause-text
returns-clause-text c =
    let s = c.self.inside.s in
    text-is s.text.now s.cursor (IsUtf8-had _ s.utf8) s.boundary ∙ ap (λ (v : Sight). text_of v.place) c.self.view_is
