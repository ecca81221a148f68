use Rattle.std.proofs.Common.{ap, sym, ◌∙◌, arith}
use Rattle.std.specs.Option.{option_map}
use Rattle.json.specs.Value.{value_view}
use Rattle.typst_check.proofs.HintLemmas.{hints_more}
use Rattle.typst_check.proofs.sarif.objects.write_each_hint.Goals as goal

pub loop-hint-preserved : goal.loop-hint-preserved
loop-hint-preserved c = record {
  before = c.in_ok-write_hint.ensures.before ∙ c.loop-hint.invariant.before;
  tokens =
      hints_more value_view c.args.uri.now c.args.region c.args.hints.now c.loop-hint.hint-index c.hint-item.result c.in-Some.text.now _ _ _
      (omega arith) c.hint-item.is (ap (option_map (λ s. s.now)) (sym c.in-Some.is) ∙ c.as_str.ensures) c.in_ok-write_hint.ensures.tokens c.loop-hint.invariant.tokens;
}
