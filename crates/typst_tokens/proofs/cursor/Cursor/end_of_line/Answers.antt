use Rattle.typst_tokens.proofs.Cited.{◌∙◌, ap, sym, arith, IsUtf8-had, in_line, past, Sight}
use Rattle.typst_tokens.proofs.Lines.{same-end}
use Rattle.typst_tokens.proofs.Sights.{text-is}
use Rattle.typst_tokens.proofs.cursor.Cursor.end_of_line.Goals as goal

pub returns-then-at-self-clause-place : goal.returns-then-at-self-clause-place
returns-then-at-self-clause-place c =
    let i = c.self.inside in
    let s = i.s in
    let l = c.self.invariant.line in
    c.jump.ensures.moved
    ∙ sym (same-end in_line s.text.now (IsUtf8-had _ s.utf8) i.line_from i.line_end s.cursor l.start l.line s.boundary (omega (arith, c.cursor-at.ensures, c.if-self-at.true)) (omega (arith, c.cursor-at.ensures, c.if-at-self.true)))
    ∙ ap (λ (v : Sight). past in_line v.place) c.self.view_is

pub returns-then-at-self-clause-text : goal.returns-then-at-self-clause-text
returns-then-at-self-clause-text c = grind (arith, text-is)

pub returns-clause-text : goal.returns-clause-text
returns-clause-text c = grind (arith, text-is)
