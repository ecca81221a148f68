use Rattle.typst_flat.proofs.Cited.{◌≡◌, ◌-◌, Some, ap, sym, subst, ◌∙◌, arith, slice_get, tag_code, all_tags, got}
use Rattle.std.specs.Slice.{IsItemAt}
use Rattle.typst_flat.proofs.Numbered.{tag_here, tag_there}
use Rattle.typst_flat.proofs.kinds.tag_of_code.Goals as goal

pub returns : goal.returns
returns c = λ t.
    let place = c.in_ok-place.place in
    let found : c.copied.result ≡ slice_get all_tags place = c.copied.ensures ∙ got all_tags place c.get.result (subst (λ xs. IsItemAt xs place c.get.result) c.list_law.ensures c.get.ensures.lookup) in (
      λ e. omega (arith, tag_there place t (sym found ∙ e), c.in_ok-place.ensures.0, c.in_ok-place.ensures.1),
      λ e. let same : place ≡ tag_code (Some t) - 1 = omega (arith, e, c.in_ok-place.ensures.1) in found ∙ (ap (slice_get all_tags) same ∙ tag_here t),
    )
