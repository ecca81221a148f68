use Rattle.typst_document.proofs.Cited.{rules, ◌≡◌, length, ap, subst, ◌∙◌, slice_range, IsCharBoundary, chars, IsOneLine, IsWay, wide}
use Rattle.typst_document.proofs.Walking.{way}
use Rattle.typst_document.proofs.walk.width_between.Goals as goal

pub returns : goal.returns
returns c =
    let text = c.text-text.result.now in
    let from = c.args.from in
    let to = c.args.to in
    let e = c.args.document.now.encoding in
    let first : IsCharBoundary text from = search rules in
    let last : IsCharBoundary text to = search rules in
    let part : c.as_bytes.result.now ≡ slice_range text from to = c.as_bytes.ensures.value ∙ c.range-between.ensures.value in
    let plain : IsOneLine (slice_range text from to) 0 (length (slice_range text from to)) = subst (λ t. IsOneLine t 0 (length t)) part (c.holds_end.ensures c.if-holds_end.false) in
    let is : c.width_of.result ≡ wide e (chars (slice_range text from to)) =
    c.width_of.ensures ∙ ap (λ n. wide n (chars c.range-between.result.now)) c.encoding.ensures ∙ ap (λ t. wide e (chars t)) c.range-between.ensures.value in
    subst (λ t. IsWay e t from to c.width_of.result) c.text-text.ensures (way e text from to c.width_of.result c.text-text.utf8 c.requires first last plain is)
