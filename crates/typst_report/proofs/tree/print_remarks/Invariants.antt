use Rattle.typst_report.proofs.Cited.{◌≡◌, ◌++◌, drop, string_bytes, remarks}
use Rattle.typst_report.proofs.tree.print_remarks.Given as goal

abbrev pub invariant-loop-diagnostic : goal.invariant-loop-diagnostic
invariant-loop-diagnostic l = string_bytes l.printed ++ remarks l.indent (drop l.diagnostic-index l.diagnostics) ≡ string_bytes l.fn.printed ++ remarks l.indent l.diagnostics
