use Rattle.typst_report.proofs.Cited.{◌≡◌, ◌++◌, length, drop, string_bytes, chars, one_line, spaced}
use Rattle.typst_report.proofs.tree.print_message.Given as goal

abbrev pub invariant-loop-c : goal.invariant-loop-c
invariant-loop-c l = string_bytes l.printed ++ spaced (drop (length l.yielded) (chars l.message)) ≡ string_bytes l.fn.printed ++ one_line l.message
