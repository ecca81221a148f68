use Rattle.typst_document.proofs.Cited.{◌≡◌, ap, subst, ◌∙◌, arith, position, IsWay}
use Rattle.typst_document.proofs.Walking.{there-before, there-behind}
use Rattle.typst_document.proofs.walk.place_from.Goals as goal

pub returns-in-Some : goal.returns-in-Some
returns-in-Some c =
    let document = c.args.document.now in
    let first : c.min.result ≡ c.args.from = omega (arith, c.min.ensures, c.if-from-to.true) in
    let last : c.max.result ≡ c.args.to = omega (arith, c.max.ensures, c.if-from-to.true) in
    let way : IsWay document.encoding document.source.text c.args.from c.args.to c.in-Some.width =
    subst (λ k. IsWay document.encoding document.source.text k c.args.to c.in-Some.width) first (subst (λ k. IsWay document.encoding document.source.text c.min.result k c.in-Some.width) last c.in-Some.ensures) in
    ap (position c.args.place.line) c.saturating_add-character.ensures
    ∙ there-behind document.encoding document.source.text c.args.from c.args.to c.in-Some.width c.args.place.line c.args.place.character c.ranges.to.fits (omega arith) c.if-from-to.true way c.requires

pub returns-in-Some-2 : goal.returns-in-Some-2
returns-in-Some-2 c =
    let document = c.args.document.now in
    let first : c.min.result ≡ c.args.to = omega (arith, c.min.ensures, c.if-from-to.false) in
    let last : c.max.result ≡ c.args.from = omega (arith, c.max.ensures, c.if-from-to.false) in
    let way : IsWay document.encoding document.source.text c.args.to c.args.from c.in-Some.width =
    subst (λ k. IsWay document.encoding document.source.text k c.args.from c.in-Some.width) first (subst (λ k. IsWay document.encoding document.source.text c.min.result k c.in-Some.width) last c.in-Some.ensures) in
    ap (position c.args.place.line) c.saturating_sub-character.ensures
    ∙ there-before document.encoding document.source.text c.args.from c.args.to c.in-Some.width c.args.place.line c.args.place.character c.if-from-to.false way c.requires
