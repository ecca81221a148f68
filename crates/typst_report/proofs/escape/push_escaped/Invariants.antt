use Rattle.typst_report.proofs.Cited.{◌≡◌, ◌++◌, length, drop, string_bytes, chars, escaped}
use Rattle.typst_report.proofs.escape.push_escaped.Given as goal

abbrev pub invariant-loop-c : goal.invariant-loop-c
invariant-loop-c l = string_bytes l.printed ++ escaped l.target (drop (length l.yielded) (chars l.text)) ≡ string_bytes l.fn.printed ++ escaped l.target (chars l.text)
