use Rattle.typst_parser.proofs.Cited.{subst, IsBoundary, Held}
use Rattle.typst_parser.proofs.source.Source.boundary.Goals as goal

pub returns : goal.returns
returns g c = subst (λ (s : Held g.row.C.Denot). IsBoundary s.root c.self.inside.boundary) c.self.view_is c.self.invariant.between
