use Rattle.typst_language.proofs.Cited.{◌∙◌, sym, IsUtf8-had, offset-is}
use Rattle.typst_language.proofs.parser.Parser.cursor.Goals as goal

pub returns : goal.returns
returns c =
    let b = c.self.inside.ahead.before in
    rw (sym c.self.view_is) (c.cursor.ensures ∙ offset-is b.text.now b.cursor (IsUtf8-had _ b.utf8) b.boundary)
