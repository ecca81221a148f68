use Rattle.typst_lines.proofs.Cited.{◌≡◌, ◌-◌, slice_get, place}
use Rattle.typst_lines.proofs.scanner.Scanner.nth_ahead.Given as goal

abbrev pub invariant-loop-i : goal.invariant-loop-i
invariant-loop-i l = slice_get (place l.self).ahead l.n ≡ slice_get (place l.ahead).ahead (l.n - l.i)
