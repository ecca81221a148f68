use Rattle.typst_server.proofs.Cited.{common_steps, rules, ap, ◌≡◌, ◌∙◌, arith, filter_same, Occurrence, defined, stretches, is_bound}
use Rattle.typst_server.proofs.Locating.{told_at}
use Rattle.typst_server.proofs.naming.definition.Goals as goal

pub returns : goal.returns
returns c =
    let document = c.args.document.now in
    let uri = c.args.uri.now in
    let os = c.in_ok-found.found.items in
    let e = filter_same _ (λ (o : Occurrence). is_bound o.kind) _ (λ x b f' t. search rules) _ _ c.retain.ensures.filtered in
    let is : stretches c.as_slice.result.now ≡ defined os = ap stretches (c.as_slice.ensures.value ∙ e) in
    grind (arith, common_steps, told_at)
