use Rattle.typst_lines.proofs.Cited.{◌≡◌, ◌-◌, slice_get, place}
use Rattle.typst_lines.proofs.scanner.Scanner.nth_before.Given as goal

abbrev pub invariant-loop-i : goal.invariant-loop-i
invariant-loop-i l = slice_get (place l.self).before l.n ≡ slice_get (place l.before).before (l.n - l.i)
