use Rattle.typst_lines.proofs.Cited.{◌≡◌, ◌++◌, length, map, chars, stretches, place}
use Rattle.typst_lines.proofs.SplitLaw.{Since, glued}
use Rattle.typst_lines.proofs.newline.split_newlines.Given as goal

abbrev pub invariant-loop-c : goal.invariant-loop-c
invariant-loop-c l =
    (h : Since (place l.start) (place l.scanner)) × (map (λ item. chars item.now) l.stretches.items ++ glued h.passed (stretches (place l.scanner).ahead) ≡ stretches (chars l.text)) × (l.scanner.text.now ≡ l.text) × (l.start.text.now ≡ l.text)

abbrev pub decreases-loop-c : goal.decreases-loop-c
decreases-loop-c l = length (place l.scanner).ahead
