use Rattle.typst_document.proofs.Cited.{refl, subst, IsTextAt}
use Rattle.typst_document.proofs.Cuts.{text_found}
use Rattle.typst_document.proofs.document.Document.text_at.Goals as goal

pub returns : goal.returns
returns c =
    subst (λ text. IsTextAt text c.args.bytes.now c.unwrap_or.result.now) c.text.ensures
    (text_found c.text.result.now c.args.bytes.now c.get.result _ c.unwrap_or.result c.text.utf8 c.unwrap_or.utf8 c.get.ensures.cases refl c.unwrap_or.ensures)
