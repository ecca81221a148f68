use Rattle.typst_markup.proofs.Cited.{ap, ◌∙◌, map, seen, does-seeing, does-next, does-gives, does-value, delimiter_sign, delimiter_kind}
use Rattle.typst_markup.proofs.delimited.delimiter_sign.Goals as goal

pub returns-clause-means : goal.returns-clause-means
unfolding delimiter_sign
returns-clause-means g c l h =
    does-next (does-seeing h.sound c.marker-from.ensures.few c.marker-from.ensures.marker (c.in_ok-eat.ensures l h) c.in_ok-change.ensures)
    (does-value (c.delimiter_kind.ensures.is ∙ ap (λ ts. delimiter_kind (map seen ts)) c.given_since.ensures) does-gives)
