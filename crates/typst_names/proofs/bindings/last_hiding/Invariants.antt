use Rattle.typst_names.proofs.Cited.{◌≡◌, ◌≤◌, last_hiding}
use Rattle.typst_names.proofs.bindings.last_hiding.Given as goal

abbrev pub invariant-loop-last : goal.invariant-loop-last
invariant-loop-last l = record {
  within : l.last ≤ l.count;
  same : last_hiding l.text l.word l.byte l.names l.last ≡ last_hiding l.text l.word l.byte l.names l.count;
}

abbrev pub decreases-loop-last : goal.decreases-loop-last
decreases-loop-last l = l.last
