use Rattle.typst_lines.proofs.Cited.{◌≡◌, ◌-◌, false, units, least_place, place}
use Rattle.typst_lines.proofs.RoundTrip.{reach, overshot}
use Rattle.typst_lines.proofs.lines.Lines.utf16_to_byte.Given as goal

abbrev pub invariant-loop-left : goal.invariant-loop-left
invariant-loop-left g l =
    record {
      found : reach l.utf16_idx (place l.scanner) ≡ least_place l.self l.utf16_idx;
      left : l.left ≡ l.utf16_idx - units (place l.scanner).before;
      not_over : overshot l.utf16_idx (place l.scanner) ≡ false;
      same_text : l.scanner.text.now ≡ l.self;
    }

abbrev pub decreases-loop-left : goal.decreases-loop-left
decreases-loop-left g l = l.left
