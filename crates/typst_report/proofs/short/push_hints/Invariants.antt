use Rattle.typst_report.proofs.Cited.{◌≡◌, ◌++◌, drop, string_bytes, hint_lines}
use Rattle.typst_report.proofs.short.push_hints.Given as goal

abbrev pub invariant-loop-hint : goal.invariant-loop-hint
invariant-loop-hint l = string_bytes l.printed ++ hint_lines l.color (drop l.hint-index l.hints) ≡ string_bytes l.fn.printed ++ hint_lines l.color l.hints
