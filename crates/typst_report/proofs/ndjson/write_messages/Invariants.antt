use Rattle.typst_report.proofs.Cited.{◌≡◌, ◌++◌, drop, messages}
use Rattle.typst_report.proofs.ndjson.write_messages.Given as goal

abbrev pub invariant-loop-hint : goal.invariant-loop-hint
invariant-loop-hint l = record {
  before : l.writer.before ≡ l.fn.writer.before;
  tokens : l.writer.tokens ++ messages (drop l.hint-index l.hints) ≡ l.fn.writer.tokens ++ messages l.hints;
}
