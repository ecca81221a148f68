use Rattle.typst_tree.proofs.Cited.{◌≡◌, ◌+◌, ◌<◌, ◌^◌, take, drop, length, IsWholeForest, forest, joined, count, saturated, have_diagnostics}
use Rattle.typst_tree.proofs.replace.totals.Given as goal

abbrev pub invariant-loop-kid : goal.invariant-loop-kid
invariant-loop-kid l = record {
  long : saturated (l.len + length (joined (forest (drop l.kid-index l.kids)))) ≡ saturated (length (joined (forest l.kids)));
  many : saturated (l.nodes + count (forest (drop l.kid-index l.kids))) ≡ saturated (count (forest l.kids));
  small_len : l.len < 2 ^ 64;
  small_count : l.nodes < 2 ^ 64;
  marked : l.is_marked ≡ have_diagnostics (forest (take l.kid-index l.kids));
  whole : IsWholeForest (forest (take l.kid-index l.kids));
}
