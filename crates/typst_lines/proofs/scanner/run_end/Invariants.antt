use Rattle.typst_lines.proofs.Cited.{◌≡◌, ◌-◌, length, place_at, past, IsCharBoundary, ◌≤◌}
use Rattle.typst_lines.proofs.scanner.run_end.Given as goal

abbrev pub invariant-loop-c : goal.invariant-loop-c
invariant-loop-c g l =
    record {
      grows : l.start ≤ l.at;
      boundary : IsCharBoundary l.text l.at;
      past : past (g.S.CharSet.members l.set) (place_at l.text l.at) ≡ past (g.S.CharSet.members l.set) (place_at l.text l.start);
    }

abbrev pub decreases-loop-c : goal.decreases-loop-c
decreases-loop-c g l = length l.text - l.at
