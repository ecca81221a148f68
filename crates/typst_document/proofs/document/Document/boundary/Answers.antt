use Rattle.typst_document.proofs.Cited.{subst, Opened}
use Rattle.typst_parser.specs.Boundaries.{IsBoundary}
use Rattle.typst_document.proofs.document.Document.boundary.Goals as goal

pub returns : goal.returns
returns c = subst (λ (d : Opened). IsBoundary d.source.root c.boundary.result) c.self.view_is c.boundary.ensures
