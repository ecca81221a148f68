use Rattle.typst_tree.proofs.Cited.{◌≡◌, ◌+◌, ◌<◌, ◌^◌, take, drop, length, IsWholeForest, forest, joined, count, saturated, have_diagnostics}
use Rattle.typst_tree.proofs.node.SyntaxNode.inner.Given as goal

abbrev pub invariant-loop-kid : goal.invariant-loop-kid
invariant-loop-kid l = record {
  long : saturated (l.len + length (joined (forest (drop l.kid-index l.kid-items)))) ≡ saturated (length (joined (forest l.kid-items)));
  many : saturated (l.descendants + count (forest (drop l.kid-index l.kid-items))) ≡ saturated (1 + count (forest l.kid-items));
  small_len : l.len < 2 ^ 64;
  small_count : l.descendants < 2 ^ 64;
  marked : l.is_marked ≡ have_diagnostics (forest (take l.kid-index l.kid-items));
  whole : IsWholeForest (forest (take l.kid-index l.kid-items));
}
