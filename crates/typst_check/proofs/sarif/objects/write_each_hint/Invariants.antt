use Rattle.std.proofs.Common.{◌≡◌, ◌++◌, drop, map}
use Rattle.json.specs.Value.{value_view}
use Rattle.typst_check.specs.Sarif.{hint_items}
use Rattle.typst_check.proofs.sarif.objects.write_each_hint.Given as goal

abbrev pub invariant-loop-hint : goal.invariant-loop-hint
invariant-loop-hint l = record {
  before : l.writer.before ≡ l.fn.writer.before;
  tokens : l.writer.tokens ++ hint_items l.uri l.region (map value_view (drop l.hint-index l.hints)) ≡ l.fn.writer.tokens ++ hint_items l.uri l.region (map value_view l.hints);
}
