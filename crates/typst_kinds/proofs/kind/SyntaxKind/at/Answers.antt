use Rattle.typst_kinds.proofs.Cited.{◌≡◌, refl, ap, sym, ◌∙◌, slice_get}
use Rattle.typst_kinds.proofs.Places.{kinds, kind_here, kind_there}
use Rattle.typst_kinds.proofs.kind.SyntaxKind.at.Goals as goal

pub returns : goal.returns
unfolding kinds
returns c = λ k.
    let found : c.kind_at.result ≡ slice_get kinds c.args.place = c.kind_at.ensures kinds refl in
    (λ e. kind_there c.args.place k (sym found ∙ e), λ e. found ∙ (ap (slice_get kinds) (sym e) ∙ kind_here k))
