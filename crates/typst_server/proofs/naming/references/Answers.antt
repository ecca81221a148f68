use Rattle.typst_server.proofs.Cited.{common_steps, rules, Bool, ap, ◌≡◌, ◌∙◌, ◌||◌, not, arith, filter_same, Occurrence, includes_label, seen, stretches, used, is_bound}
use Rattle.typst_server.proofs.Locating.{told_at}
use Rattle.typst_server.proofs.naming.references.Goals as goal

pub returns : goal.returns
returns c =
    let document = c.args.document.now in
    let uri = c.args.uri.now in
    let os = c.in_ok-found.found.items in
    let wanted = c.includes_label-with_definitions in
    let e = filter_same _ (λ (o : Occurrence). wanted.result || not (is_bound o.kind)) _ (λ x b f' t. search rules) _ _ c.retain.ensures.filtered in
    let is : stretches c.as_slice.result.now ≡ used (includes_label (seen c.args.params)) os = ap stretches (c.as_slice.ensures.value ∙ e) ∙ ap (λ (v : Bool). used v os) wanted.ensures in
    grind (arith, common_steps, told_at)
