use Rattle.typst_lines.proofs.Cited.{◌≡◌, length, reverse, chars, place}
use Rattle.typst_lines.proofs.CommonEnds.{Shares}
use Rattle.typst_lines.proofs.lines.common_end_len.Given as goal

abbrev pub invariant-loop-c : goal.invariant-loop-c
invariant-loop-c l =
    record {
      shared : Shares (reverse (chars l.old)) (reverse (chars l.new)) (place l.first).before (place l.second).before;
      old_text : l.first.text.now ≡ l.old;
    }

abbrev pub decreases-loop-c : goal.decreases-loop-c
decreases-loop-c l = length (place l.first).before
