use Rattle.typst_styles.proofs.Cited.{◌≡◌, ◌-◌, ◌≤◌, take, bytes_of}
use Rattle.typst_styles.proofs.windows.last_edge.Given as goal

abbrev pub invariant-loop-back : goal.invariant-loop-back
invariant-loop-back l = record {
  end : l.end ≡ bytes_of (take (l.count - l.back) l.nodes);
  low : l.end ≤ l.bytes;
}
