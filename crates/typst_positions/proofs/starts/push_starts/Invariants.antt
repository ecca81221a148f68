use Rattle.typst_positions.proofs.Cited.{◌≡◌, ◌+◌, ◌-◌, ◌≤◌, ◌++◌, starts_between}
use Rattle.typst_positions.proofs.starts.push_starts.Given as goal

abbrev pub invariant-loop-end : goal.invariant-loop-end
invariant-loop-end l =
    record {
      within : l.at ≤ l.to;
      listed : l.starts.items ++ starts_between l.text (l.at + 1) l.to ≡ l.fn.starts.items ++ starts_between l.text (l.from + 1) l.to;
    }

abbrev pub decreases-loop-end : goal.decreases-loop-end
decreases-loop-end l = l.to - l.at
