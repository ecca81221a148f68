use Rattle.typst_lines.proofs.Cited.{◌≡◌, ◌-◌, length, chars, place}
use Rattle.typst_lines.proofs.CommonEnds.{Shares}
use Rattle.typst_lines.proofs.lines.common_front_len.Given as goal

abbrev pub invariant-loop-c : goal.invariant-loop-c
invariant-loop-c l =
    record {
      shared : Shares (chars l.old) (chars l.new) (place l.first).ahead (place l.second).ahead;
      old_text : l.first.text.now ≡ l.old;
      new_text : l.second.text.now ≡ l.new;
    }

abbrev pub decreases-loop-c : goal.decreases-loop-c
decreases-loop-c l = length l.first.text.now - l.first.cursor
