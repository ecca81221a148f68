use Rattle.std.proofs.Common.{map, refl}
use Rattle.json.specs.Value.{value_view}
use Rattle.typst_check.specs.Sarif.{result_item}
use Rattle.typst_check.proofs.OutcomeLemmas.{on_ok}
use Rattle.typst_check.proofs.sarif.objects.write_result.Goals as goal

pub returns-clause-tokens : goal.returns-clause-tokens
returns-clause-tokens c =
    let finding = c.in_ok-finding.finding in
    let hints = map value_view c.in_ok-hints.hints.now in
    on_ok c.write_object.result _ _
    (λ w. record {
      result = result_item c.args.uri.now w.0 finding hints;
      is = record { finding = finding; read = c.in_ok-finding.ensures; hints = hints; listed = c.in_ok-hints.ensures; rule = w.0; is = refl };
      appended = w.1;
    })
    c.write_object.ensures.tokens
