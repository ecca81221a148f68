use Rattle.typst_server.proofs.Cited.{None, ap, refl, ◌∙◌, seen, decoded, Tokens}
use Rattle.typst_server.proofs.Sending.{within_written}
use Rattle.typst_server.proofs.tokens.range.Goals as goal

pub returns : goal.returns
returns c =
    let tokens : Tokens = record { result_id = None; «data» = c.as_slice.result } in
    within_written (seen c.args.params) c.args.document.now c.in_ok-stretch.stretch c.byte_of.result c.byte_of-2.result tokens c.json_of.result c.in_ok-stretch.ensures c.byte_of.ensures.value c.byte_of-2.ensures.value refl
    (λ small. ap (decoded 0 0) c.as_slice.ensures.value ∙ c.in_ok-data.ensures.decoded small) c.json_of.ensures
