use Rattle.typst_parser.proofs.Cited.{◌<◌, sym, subst, ◌∙◌, MeetsOn}
use Rattle.typst_parser.proofs.attempt.Serving.fits.Goals as goal

pub returns : goal.returns
returns c = λ y m says some.
    let to = c.args.to.now in
    let led = c.args.candidate.start < c.args.self.now.first_candidate.start in
    let test = c.meets.ensures y c.args.candidate.start c.args.self.now.first_candidate.start m says (c.has_pieces.ensures m some) in
    ((λ t. (sym c.end.ensures ∙ c.if-end-target.false, subst (λ v. MeetsOn to.entries c.args.kind to.number led m y v) c.carried-carried.ensures (test.0 t))), (λ p. test.1 (subst (λ v. MeetsOn to.entries c.args.kind to.number led m y v) (sym c.carried-carried.ensures) p.1)))
