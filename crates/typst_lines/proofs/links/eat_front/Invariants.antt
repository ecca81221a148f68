use Rattle.typst_lines.proofs.Cited.{◌≡◌, length, place}
use Rattle.typst_lines.proofs.Fronts.{Left}
use Rattle.typst_lines.proofs.links.eat_front.Given as goal

abbrev pub invariant-loop-c : goal.invariant-loop-c
invariant-loop-c l = record {
  left : Left l.brackets (place l.s) (place l.fn.s);
  same_text : l.s.text.now ≡ l.fn.s.text.now;
}

abbrev pub decreases-loop-c : goal.decreases-loop-c
decreases-loop-c l = length (place l.s).ahead
