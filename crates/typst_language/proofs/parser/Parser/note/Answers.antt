use Rattle.typst_language.proofs.Cited.{◌∙◌, ap, sym, IsUtf8-had, position, offset-is, Log, with_hull, view_of, with_noted}
use Rattle.typst_language.proofs.Ready.{noted-is}
use Rattle.typst_language.proofs.parser.Parser.note.Goals as goal

pub returns : goal.returns
returns g c l h =
    let i = c.self.inside in
    let b = i.ahead.before in
    let s = i.ahead.start in
    let first = c.cursor-before.result in
    let second = c.cursor-start.result in
    rw (sym c.self.view_is)
    (noted-is l c.args.mark _ first second _ _ h.levels
    (c.cursor-before.ensures ∙ offset-is b.text.now b.cursor (IsUtf8-had _ b.utf8) b.boundary)
    (c.cursor-start.ensures ∙ offset-is s.text.now s.cursor (IsUtf8-had _ s.utf8) s.boundary ∙ ap position c.self.invariant.stands.start)
    (ap (λ (x : Log). record (view_of i) { log = x })
    (c.look.ensures ∙ ap (with_hull i.ahead.here) (c.in_ok-note.ensures ∙ ap (λ n. with_noted c.args.mark first second n i.state i.log) c.levels.ensures))))
