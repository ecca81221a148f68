use Rattle.typst_report.proofs.Cited.{◌≡◌, ◌++◌, drop, string_bytes, errors}
use Rattle.typst_report.proofs.tree.print_errors.Given as goal

abbrev pub invariant-loop-diagnostic : goal.invariant-loop-diagnostic
invariant-loop-diagnostic l = string_bytes l.printed ++ errors (drop l.diagnostic-index l.diagnostics) ≡ string_bytes l.fn.printed ++ errors l.diagnostics
