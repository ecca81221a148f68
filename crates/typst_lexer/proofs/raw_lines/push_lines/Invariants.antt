use Rattle.typst_lexer.proofs.Cited.{◌≡◌, length, place}
use Rattle.typst_lexer.proofs.Loops.{IsOnWay}
use Rattle.typst_lexer.proofs.raw_lines.push_lines.Given as goal

abbrev pub invariant-loop-s : goal.invariant-loop-s
invariant-loop-s l = record {
  on_way : IsOnWay l.dedent l.leaves.items (place l.from) (place l.s) l.fn.leaves.items (place l.fn.from) (place l.fn.s);
  same_text : l.s.text.now ≡ l.from.text.now;
}

abbrev pub decreases-loop-s : goal.decreases-loop-s
decreases-loop-s l = length (place l.s).ahead
