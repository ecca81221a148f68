use Rattle.typst_lexer.proofs.Cited.{◌∙◌, ap, sym, IsUtf8-had, place, text_of, read-is, hull-is, text-is, text-read}
use Rattle.typst_lexer.proofs.lexer.read_up_to.Goals as goal

pub returns-clause-scans : goal.returns-clause-scans
returns-clause-scans c = λ r s e.
    let z = place s in
    let f = read-is r z c.args.token c.args.cursor e in
    record {
      reads = f ∙ ap (λ w. (c.args.token, w)) (sym c.finish.ensures.place);
      hull = c.finish.ensures.hull ∙ hull-is r z c.args.token c.args.cursor e;
      same_text = c.finish.ensures.text ∙ ap text_of (sym (ap (λ p. p.1) f)) ∙ text-read r z ∙ sym (text-is s.text.now s.cursor (IsUtf8-had _ s.utf8) s.boundary);
    }
