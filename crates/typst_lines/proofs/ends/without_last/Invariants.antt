use Rattle.typst_lines.proofs.Cited.{◌≡◌, length, reverse, chars, place}
use Rattle.typst_lines.proofs.Trimmed.{stripped}
use Rattle.typst_lines.proofs.ends.without_last.Given as goal

abbrev pub invariant-loop-c : goal.invariant-loop-c
invariant-loop-c g l = let test = g.S.CharSet.members l.set in stripped test (place l.s).before ≡ stripped test (reverse (chars l.text))

abbrev pub decreases-loop-c : goal.decreases-loop-c
decreases-loop-c g l = length (place l.s).before
