use Rattle.typst_document.proofs.Cited.{rules, ◌≡◌, ◌≤◌, ap, arith, length, subst, sym, IsUtf8, edited, IsEdited, line_starts, Opened}
use Rattle.std.proofs.lemmas.Grind.{common_steps}
use Rattle.typst_document.proofs.Edits.{is_edited}
use Rattle.typst_document.proofs.ReadAgain.{read_again}
use Rattle.typst_document.proofs.document.Document.edited.Goals as goal

pub edit-requires-2 : goal.edit-requires-2
edit-requires-2 c =
    let text : c.text.result.now ≡ edited c.args.self.source.text c.args.replace c.args.with.now = first_of (search rules, grind (arith, common_steps)) in
    let starts : c.self.inside.positions ≡ line_starts c.args.self.source.text = first_of (search rules, grind (arith, common_steps)) in
    let within : c.args.replace.end ≤ length c.args.self.source.text = c.requires.end.0 in
    subst (λ s. IsEdited s c.text.result.now c.args.replace (length c.args.with.now)) (sym starts)
    (
    subst (λ t. IsEdited (line_starts c.args.self.source.text) t c.args.replace (length c.args.with.now)) (sym text)
    (is_edited c.args.self.source.text c.args.with.now c.args.replace c.requires.ordered within)
    )

pub returns-clause-read : goal.returns-clause-read
returns-clause-read c =
    let old = c.self.inside.source in
    let ok = c.in-Ok.ensures in
    read_again c.args.self old c.edit.new.self c.args.replace c.args.with.now c.in-Ok.read (ap (λ (d : Opened). d.source) (sym c.self.view_is)) c.self.invariant.headline ok.headline (subst IsUtf8 c.text-was.ensures c.text-was.utf8)
    c.utf8.with c.requires.start c.requires.end c.requires.ordered ok.text ok.answer c.self.invariant.recorded ok.within.0
