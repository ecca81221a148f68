use Rattle.typst_language.proofs.Cited.{◌∙◌, ap, sym, IsUtf8-had, position, offset-is}
use Rattle.typst_language.proofs.parser.Parser.token_start.Goals as goal

pub returns : goal.returns
returns c =
    let s = c.self.inside.ahead.start in
    rw (sym c.self.view_is) (c.cursor.ensures ∙ offset-is s.text.now s.cursor (IsUtf8-had _ s.utf8) s.boundary ∙ ap position c.self.invariant.stands.start)
