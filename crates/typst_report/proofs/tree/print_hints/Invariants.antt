use Rattle.typst_report.proofs.Cited.{◌≡◌, ◌++◌, drop, string_bytes, hints}
use Rattle.typst_report.proofs.tree.print_hints.Given as goal

abbrev pub invariant-loop-hint : goal.invariant-loop-hint
invariant-loop-hint l = string_bytes l.printed ++ hints l.indent (drop l.hint-index l.hints) ≡ string_bytes l.fn.printed ++ hints l.indent l.hints
